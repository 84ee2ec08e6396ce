use Rattle.flat_fold.specs.EdgeSides.{HasPieces}
use Rattle.flat_fold.proofs.sides.pieces_of.Given as goal

abbrev pub invariant-loop-f : goal.invariant-loop-f
invariant-loop-f l = HasPieces l.faces l.f 0 l.pieces
