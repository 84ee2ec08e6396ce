use Rattle.std.specs.Prelude.{All}
use Rattle.scaled_plane.specs.Drawn.{IsScaledSegment}
use Rattle.plane_tests.proofs.cutting.segments_of.Given as goal

abbrev pub invariant-loop-crease : goal.invariant-loop-crease
invariant-loop-crease g l = All (IsScaledSegment g.W.Whole.numbers) l.segments
