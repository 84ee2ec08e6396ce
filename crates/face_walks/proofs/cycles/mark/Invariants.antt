use Rattle.std.proofs.Common.{take}
use Rattle.half_edges.specs.Cycles.{ids}
use Rattle.face_walks.specs.Orders.{AreMarked}
use Rattle.face_walks.proofs.cycles.mark.Given as goal

abbrev pub invariant-loop-half : goal.invariant-loop-half
invariant-loop-half l = AreMarked l.fn.seen (ids (take l.half-index l.cycle)) l.seen
