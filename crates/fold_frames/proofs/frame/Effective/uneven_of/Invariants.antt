use Rattle.fold_frames.specs.Counts.{other_length}
use Rattle.fold_frames.proofs.FirstOf.{IsPassed}
use Rattle.fold_frames.proofs.frame.Effective.uneven_of.Given as goal

abbrev pub invariant-loop-key : goal.invariant-loop-key
invariant-loop-key l =
    IsPassed (other_length l.self.entries l.count) (λ key. key.now) l.key-items l.key-index
