use Rattle.flat_fold.specs.EdgeSides.{HasPieces}
use Rattle.flat_fold.proofs.sides.put_face.Given as goal

abbrev pub invariant-loop-k : goal.invariant-loop-k
invariant-loop-k l = HasPieces l.faces l.f l.k l.pieces
