use Rattle.fold_frames.proofs.Existing.{file_has}
use Rattle.fold_frames.proofs.laws.trees_have_files.Goals as goal

pub returns : goal.returns
returns c = file_has
