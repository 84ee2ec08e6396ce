use Rattle.std.proofs.Common.{ℕ, ◌+◌, ◌<◌}
use Rattle.json_tree.proofs.Distinct.{DifferAt}
use Rattle.json_tree.proofs.proper.neighbours_differ.Given as goal

abbrev pub invariant-loop-later : goal.invariant-loop-later
invariant-loop-later l = (k : ℕ) → k + 1 < l.later → DifferAt l.sorted k (k + 1)
