use Rattle.std.proofs.Common.{All}
use Rattle.scaled_plane.specs.Drawn.{IsScaledPoint}
use Rattle.plane_timing.proofs.points.scaled_points.Given as goal

abbrev pub invariant-loop : goal.invariant-loop
invariant-loop g l = All (λ p. IsScaledPoint g.W.Whole.numbers p) l.points
