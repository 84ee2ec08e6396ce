use Rattle.std.proofs.Common.{◌≡◌, drop}
use Rattle.fold_frames.specs.Parents.{value_at}
use Rattle.fold_frames.proofs.parents.value_at.Given as goal

abbrev pub invariant-loop-entry : goal.invariant-loop-entry
invariant-loop-entry l = value_at (drop l.entry-index l.entries) l.key ≡ value_at l.entries l.key
