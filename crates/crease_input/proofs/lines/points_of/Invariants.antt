use Rattle.std.proofs.Common.{◌≡◌, map, take}
use Rattle.crease_input.proofs.lines.points_of.Given as goal

abbrev pub invariant-loop-corner : goal.invariant-loop-corner
invariant-loop-corner g l = l.points ≡ map (λ k. k.point) (take l.corner-index l.corner-items)
