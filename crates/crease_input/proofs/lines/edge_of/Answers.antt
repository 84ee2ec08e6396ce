use Rattle.std.proofs.Common.{◌∙◌, ap, map, sym}
use Rattle.crease_input.specs.Points.{place_in, with_point}
use Rattle.crease_input.specs.Lines.{edge_in}
use Rattle.crease_input.proofs.Points.{edge_new}
use Rattle.crease_input.proofs.lines.edge_of.Goals as goal

pub returns-clause-edge : goal.returns-clause-edge
returns-clause-edge g c =
    let parts = g.N.Exact.parts in
    let old = map (λ k. k.point) c.args.corners.now.keys in
    edge_new parts old c.args.crease c.in_ok-from.from c.in_ok-to.to c.in_ok-from.ensures.place
    (c.in_ok-to.ensures.place ∙ ap (λ cs. place_in parts cs c.args.crease.to) c.in_ok-from.ensures.points)
    ∙ ap (λ cs. edge_in parts cs c.args.crease)
    (sym (c.in_ok-to.ensures.points ∙ ap (λ cs. with_point parts cs c.args.crease.to) c.in_ok-from.ensures.points))
