use Rattle.std.proofs.Common.{◌≡◌, map, take}
use Rattle.arrangement.proofs.drawing.points_of.Given as goal

abbrev pub invariant-loop-vertex : goal.invariant-loop-vertex
invariant-loop-vertex g l = l.points ≡ map (λ v. v.point) (take l.vertex-index l.vertices)
