use Rattle.std.proofs.Common.{All}
use Rattle.scaled_plane.specs.Drawn.{IsDrawn}
use Rattle.plane_timing.proofs.points.crossings.Given as goal

abbrev pub invariant-loop-second : goal.invariant-loop-second
invariant-loop-second g l = All (λ p. IsDrawn g.W.Whole.numbers p) l.points
