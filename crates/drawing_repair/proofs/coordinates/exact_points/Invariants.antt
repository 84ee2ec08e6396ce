use Rattle.std.proofs.Common.{ℕ, ◌<◌, take}
use Rattle.drawing_repair.specs.Repaired.{AreExact, IsWideDrawn}
use Rattle.drawing_repair.proofs.coordinates.exact_points.Given as goal

abbrev pub invariant-loop-vertex : goal.invariant-loop-vertex
invariant-loop-vertex g l =
    AreExact g.N.Exact.parts g.N.Ring.Whole.numbers (take l.vertex l.points) l.common l.coords
    × ((u : ℕ) → u < l.vertex → ¬ IsWideDrawn g.N.Ring.Whole.numbers l.points l.common u)
