use Rattle.std.proofs.Common.{◌≡◌, ◌++◌, ◌∷◌, [], ◌+◌, List, length, sym, ap, subst, ◌∙◌, arith}
use Rattle.plane.specs.Directions.{IsSameWay}
use Rattle.scaled_plane.specs.declared.drawing.Edge.{Edge}
use Rattle.scaled_plane.specs.WellSet.{LiesAlong}
use Rattle.face_walks.specs.declared.headings.Heading.{Heading}
use Rattle.face_walks.specs.Pairs.{edge_at}
use Rattle.face_walks.specs.Headings.{AreHeadings, direction_of, edge_way}
use Rattle.face_walks.proofs.HeadingLists.{one_more, zip_at, zip_length}
use Rattle.face_walks.proofs.headings.headings_of.Goals as goal

pub bounds-lines-i : goal.bounds-lines-i
bounds-lines-i g c =
    let drawing = c.args.drawing.now in
    let long : length drawing.edges ≡ length drawing.lines = zip_length (LiesAlong g.W.Whole.numbers drawing) drawing.edges drawing.lines c.requires.lines in
    omega (arith, long, ap length c.as_slice-lines.ensures, ap length c.as_slice-edge-items.ensures)

pub headings_of_edge-there-requires-clause-along : goal.headings_of_edge-there-requires-clause-along
headings_of_edge-there-requires-clause-along g c =
    let drawing = c.args.drawing.now in
    rw (c.as_slice-edge-items.ensures, c.as_slice-lines.ensures)
    (zip_at (LiesAlong g.W.Whole.numbers drawing) drawing.edges drawing.lines c.loop-i.i _ _ c.requires.lines
    (omega (arith, ap length c.as_slice-edge-items.ensures)))

pub loop-i-preserved : goal.loop-i-preserved
loop-i-preserved g c =
    let drawing = c.args.drawing.now in
    let items : c.push-in-loop-i.new.self.items ≡ (c.loop-i.headings.items ++ c.headings_of_edge-there.result.0 ∷ []) ++ c.headings_of_edge-there.result.1 ∷ []
    = c.in_ok-push-2.ensures.items ∙ ap (λ (hs : List (Heading g.row.W.Denot)). hs ++ c.headings_of_edge-there.result.1 ∷ []) c.in_ok-push.ensures.items in
    subst (λ (hs : List (Heading g.row.W.Denot)). AreHeadings g.W.Whole.numbers drawing (c.loop-i.i + 1) hs) (sym items)
    (one_more g.W.Whole.numbers drawing c.loop-i.i c.loop-i.headings.items c.headings_of_edge-there.result.0 c.headings_of_edge-there.result.1 c.loop-i.invariant
    (subst (λ (es : List Edge). IsSameWay g.W.Whole.numbers.ring (direction_of c.headings_of_edge-there.result.0) (edge_way g.W.Whole.numbers drawing (edge_at es c.loop-i.i).from (edge_at es c.loop-i.i).to))
    c.as_slice-edge-items.ensures c.headings_of_edge-there.ensures.there)
    (subst (λ (es : List Edge). IsSameWay g.W.Whole.numbers.ring (direction_of c.headings_of_edge-there.result.1) (edge_way g.W.Whole.numbers drawing (edge_at es c.loop-i.i).to (edge_at es c.loop-i.i).from))
    c.as_slice-edge-items.ensures c.headings_of_edge-there.ensures.back)
    c.headings_of_edge-there.ensures.there_size c.headings_of_edge-there.ensures.back_size)

pub returns : goal.returns
returns g c =
    let drawing = c.args.drawing.now in
    let done : c.loop-i.i ≡ length drawing.edges = omega (arith, ap length c.as_slice-edge-items.ensures) in
    rw (← done) c.loop-i.invariant
