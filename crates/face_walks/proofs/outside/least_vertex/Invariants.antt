use Rattle.face_walks.specs.Outside.{IsLeastPoint}
use Rattle.face_walks.proofs.outside.least_vertex.Given as goal

abbrev pub invariant-loop-i : goal.invariant-loop-i
invariant-loop-i g l = IsLeastPoint g.W.Whole.numbers.ring l.vertices l.i l.least
