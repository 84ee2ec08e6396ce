use Rattle.std.proofs.Common.{◌≡◌, take}
use Rattle.half_edges.specs.Cycles.{ids}
use Rattle.face_walks.specs.Orders.{corners_of}
use Rattle.face_walks.proofs.cycles.face_of.Given as goal

abbrev pub invariant-loop-half : goal.invariant-loop-half
invariant-loop-half l = l.corners ≡ corners_of l.arena (ids (take l.half-index l.cycle))
