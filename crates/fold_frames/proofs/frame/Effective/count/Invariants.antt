use Rattle.fold_frames.specs.Counts.{length_at}
use Rattle.fold_frames.proofs.FirstOf.{IsPassed}
use Rattle.fold_frames.proofs.frame.Effective.count.Given as goal

abbrev pub invariant-loop-key : goal.invariant-loop-key
invariant-loop-key l = IsPassed (length_at l.self.entries) (λ key. key.now) l.key-items l.key-index
