use Rattle.std.proofs.Common.{ℕ, ◌<◌, List, length, sym, subst}
use Rattle.plane.specs.Directions.{Differ}
use Rattle.scaled_plane.specs.declared.drawing.Edge.{Edge}
use Rattle.face_walks.specs.declared.headings.Heading.{Heading}
use Rattle.face_walks.specs.Headings.{lead}
use Rattle.face_walks.specs.Linked.{piece_at}
use Rattle.face_walks.specs.Pairs.{ArePairs}
use Rattle.face_walks.proofs.Assembling.{differ, tails}
use Rattle.face_walks.proofs.walking.parts_of.Goals as goal

pub rings_of-requires-clause-in_range : goal.rings_of-requires-clause-in_range
rings_of-requires-clause-in_range g c = λ h l.
    let drawing = c.args.drawing.now in
    let pairs : ArePairs drawing.edges (length drawing.edges) c.in_ok-arena.arena
    = subst (λ (edges : List Edge). ArePairs edges (length edges) c.in_ok-arena.arena) c.as_slice.ensures c.in_ok-arena.ensures in
    subst (λ (n : ℕ). (piece_at c.in_ok-arena.arena h).0 < n) (sym c.len.ensures)
    (tails g.W.Whole.numbers drawing c.requires c.in_ok-arena.arena pairs h l)

pub rings_of-requires-clause-differ : goal.rings_of-requires-clause-differ
rings_of-requires-clause-differ g c = λ i j li lj other same.
    let drawing = c.args.drawing.now in
    let pairs : ArePairs drawing.edges (length drawing.edges) c.in_ok-arena.arena
    = subst (λ (edges : List Edge). ArePairs edges (length edges) c.in_ok-arena.arena) c.as_slice.ensures c.in_ok-arena.ensures in
    subst (λ (hs : List (Heading g.row.W.Denot)). Differ g.W.Whole.numbers.ring (lead g.W.Whole.numbers.ring hs i) (lead g.W.Whole.numbers.ring hs j))
    (sym c.as_slice-2.ensures.value)
    (differ g.W.Whole.numbers drawing c.requires c.in_ok-arena.arena pairs c.in_ok-headings.headings.items c.in_ok-headings.ensures i j li lj other same)
