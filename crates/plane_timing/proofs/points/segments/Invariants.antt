use Rattle.std.proofs.Common.{All}
use Rattle.scaled_plane.specs.Drawn.{IsScaledSegment}
use Rattle.scaled_plane.specs.Pieces.{IsProper}
use Rattle.plane_timing.proofs.points.segments.Given as goal

abbrev pub invariant-loop : goal.invariant-loop
invariant-loop g l = All (λ s. IsScaledSegment g.W.Whole.numbers s × IsProper g.W.Whole.numbers.ring s) l.segments
