use Rattle.std.proofs.Common.{◌≡◌, length}
use Rattle.half_edges.specs.Halves.{IsArena}
use Rattle.face_walks.specs.Rings.{AreRings}
use Rattle.face_walks.proofs.rings.rings_of.Given as goal

abbrev pub invariant-loop-half : goal.invariant-loop-half
invariant-loop-half g l = IsArena l.arena × (length l.rings ≡ l.vertices) × AreRings g.W.Whole.numbers.ring l.headings l.arena l.half l.rings
