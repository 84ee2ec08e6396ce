use Rattle.face_walks.specs.Headings.{direction_of}
use Rattle.face_walks.specs.Outside.{IsFirstFrom}
use Rattle.face_walks.proofs.outside.first_from.Given as goal

abbrev pub invariant-loop-half : goal.invariant-loop-half
invariant-loop-half g l = IsFirstFrom g.W.Whole.numbers.ring l.headings (direction_of l.fn.from) l.ring l.half-index l.first.0
