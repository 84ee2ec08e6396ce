use Rattle.std.specs.Prelude.{All}
use Rattle.scaled_plane.specs.Drawn.{IsScaledSegment}
use Rattle.piece_timing.proofs.drawn.Given as goal

abbrev pub invariant-loop-i : goal.invariant-loop-i
invariant-loop-i g l = All (IsScaledSegment g.W.Whole.numbers) l.segments
