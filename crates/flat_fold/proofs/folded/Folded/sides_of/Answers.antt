use Rattle.std.proofs.Common.{◌≡◌, sym, subst, ◌<◌, List, length}
use Rattle.flat_fold.specs.declared.sides.Sides.{Sides}
use Rattle.flat_fold.specs.EdgeSides.{HasSides, sides_at}
use Rattle.flat_fold.specs.Faces.{edge_at}
use Rattle.flat_fold.specs.Folded.{Layout}
use Rattle.flat_fold.proofs.SheetSides.{some-side}
use Rattle.flat_fold.proofs.folded.Folded.sides_of.Goals as goal

pub returns-clause-some : goal.returns-clause-some
returns-clause-some g c none =
    let less : c.args.edge < length c.self.inside.sheet.ends.edges = subst (λ (l : Layout g.row.N.Denot g.row.N-Ring.Denot). c.args.edge < length l.sheet.ends.edges) (sym c.self.view_is) c.requires in
    let has : HasSides c.self.inside.sheet.faces (edge_at c.self.inside.sheet.ends.edges c.args.edge) (sides_at c.as_slice.result.now c.args.edge)
    = subst (λ (s : List Sides). HasSides c.self.inside.sheet.faces (edge_at c.self.inside.sheet.ends.edges c.args.edge) (sides_at s c.args.edge)) (sym c.as_slice.ensures) (c.self.invariant.sides_are.each c.args.edge less) in
    some-side c.self.inside.sheet.ends c.self.inside.sheet.faces c.ends.ensures.sheet c.args.edge less (sides_at c.as_slice.result.now c.args.edge) has none
