use Rattle.fold_frames.proofs.OneFrame.{some_frame, one_frame, one_cause, frame_or_cause}
use Rattle.fold_frames.proofs.laws.one_effective_frame.Goals as goal

pub returns : goal.returns
returns c = record { some = some_frame; one = one_frame; one_cause = one_cause; apart = frame_or_cause }
