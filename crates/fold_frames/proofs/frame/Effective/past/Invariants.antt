use Rattle.fold_frames.specs.Counts.{past_at}
use Rattle.fold_frames.proofs.FirstOf.{IsPassed}
use Rattle.fold_frames.proofs.frame.Effective.past.Given as goal

abbrev pub invariant-loop-key : goal.invariant-loop-key
invariant-loop-key l =
    IsPassed (past_at l.self.entries) (λ list. (list.0.now, list.1)) l.key-items l.key-index
