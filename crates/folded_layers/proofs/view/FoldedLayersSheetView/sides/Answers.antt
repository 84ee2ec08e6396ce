use Rattle.std.proofs.Common.{◌∙◌, ap, sym, List, length, arith}
use Rattle.layers.specs.Sheets.{FoldedEdge}
use Rattle.scaled_plane.specs.declared.drawing.Edge.{Edge}
use Rattle.flat_fold.specs.declared.sides.Sides.{Sides}
use Rattle.folded_layers.specs.Sheets.{sides_there}
use Rattle.folded_layers.proofs.ViewFacts.{edge-at, edge-in, sides-fit}
use Rattle.folded_layers.proofs.view.FoldedLayersSheetView.sides.Goals as goal

pub prove-unreachable-requires : goal.prove-unreachable-requires
prove-unreachable-requires g c =
    let within = edge-in g.N.Ring.Whole.numbers.ring c.args.self.now.folded.now c.args.edge c.requires in
    let many = ap (λ (xs : List Edge). length xs) c.edges-count.ensures.edges in
    let past = c.if-prove.true in
    omega (arith, within, many, past)

pub returns-clause-sides : goal.returns-clause-sides
returns-clause-sides g c =
    let within = edge-in g.N.Ring.Whole.numbers.ring c.args.self.now.folded.now c.args.edge c.requires in
    ap (λ (x : FoldedEdge). x.sides) (edge-at g.N.Ring.Whole.numbers.ring c.args.self.now.folded.now c.args.edge within)
    ∙ ap (λ (s : Sides). sides_there s) (sym c.sides_of.ensures.is) ∙ sym c.seen_sides.ensures

pub returns-clause-sided : goal.returns-clause-sided
returns-clause-sided g c = sides-fit g.N.Exact.numbers.field c.args.self.now.folded.now c.edges-count.ensures.layers
