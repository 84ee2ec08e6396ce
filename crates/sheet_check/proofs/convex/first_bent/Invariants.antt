use Rattle.std.proofs.Common.{ℕ, ◌<◌}
use Rattle.flat_fold.specs.Faces.{corners_at}
use Rattle.sheet_check.specs.Bent.{IsBentPlace}
use Rattle.sheet_check.proofs.convex.first_bent.Given as goal

abbrev pub invariant-loop-face : goal.invariant-loop-face
invariant-loop-face g l = (f : ℕ) → f < l.face → (k : ℕ) → ¬ IsBentPlace g.W.Whole.numbers.ring l.vertices (corners_at l.faces f) k
