use Rattle.std.proofs.Common.{sym, subst}
use Rattle.plane.specs.declared.point.Point.{Point}
use Rattle.scaled_plane.specs.Drawn.{IsDrawn}
use Rattle.face_walks.proofs.Settled.{drawn, ends_differ}
use Rattle.face_walks.proofs.headings.headings_of_edge.Goals as goal

pub headings_along-requires-clause-from_drawn : goal.headings_along-requires-clause-from_drawn
headings_along-requires-clause-from_drawn g c =
    subst (λ (p : Point g.row.W.Denot). IsDrawn g.W.Whole.numbers p) (sym c.point_of-from.ensures)
    (drawn g.W.Whole.numbers c.args.drawing.now c.requires.well_set c.args.edge.from (c.requires.well_set.ends c.args.edge c.requires.edge).0)

pub headings_along-requires-clause-to_drawn : goal.headings_along-requires-clause-to_drawn
headings_along-requires-clause-to_drawn g c =
    subst (λ (p : Point g.row.W.Denot). IsDrawn g.W.Whole.numbers p) (sym c.point_of-to.ensures)
    (drawn g.W.Whole.numbers c.args.drawing.now c.requires.well_set c.args.edge.to (c.requires.well_set.ends c.args.edge c.requires.edge).1)

pub headings_along-requires-clause-edge : goal.headings_along-requires-clause-edge
headings_along-requires-clause-edge g c =
    rw (c.point_of-from.ensures, c.point_of-to.ensures) (ends_differ g.W.Whole.numbers c.args.drawing.now c.requires.well_set c.args.edge c.requires.edge)
