use Rattle.half_edges.specs.Halves.{IsArena}
use Rattle.face_walks.proofs.Finding.{AreFound}
use Rattle.face_walks.proofs.cycles.cycles_of.Given as goal

abbrev pub invariant-loop-half : goal.invariant-loop-half
invariant-loop-half l = IsArena l.arena × AreFound l.arena l.half-items l.outside.0 l.half-index l.found.faces l.found.outer l.found.seen.items
