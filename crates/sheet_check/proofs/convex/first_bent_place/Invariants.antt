use Rattle.std.proofs.Common.{ℕ, ◌<◌}
use Rattle.sheet_check.specs.Bent.{IsBentPlace}
use Rattle.sheet_check.proofs.convex.first_bent_place.Given as goal

abbrev pub invariant-loop-place : goal.invariant-loop-place
invariant-loop-place g l = (k : ℕ) → k < l.place → ¬ IsBentPlace g.W.Whole.numbers.ring l.vertices l.corners k
