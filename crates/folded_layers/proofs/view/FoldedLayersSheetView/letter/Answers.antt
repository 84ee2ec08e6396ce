use Rattle.std.proofs.Common.{◌∙◌, ap, sym, subst, List, ◌<◌, length}
use Rattle.layers.specs.Sheets.{FoldedEdge}
use Rattle.scaled_plane.specs.declared.drawing.Edge.{Edge}
use Rattle.flat_fold.specs.Faces.{edge_at}
use Rattle.folded_layers.proofs.ViewFacts.{edge-at, edge-in}
use Rattle.folded_layers.proofs.view.FoldedLayersSheetView.letter.Goals as goal

pub bounds-edges-edge : goal.bounds-edges-edge
bounds-edges-edge g c =
    subst (λ (xs : List Edge). c.args.edge < length xs) (sym c.edges.ensures.edges) (edge-in g.N.Ring.Whole.numbers.ring c.args.self.now.folded.now c.args.edge c.requires)

pub returns : goal.returns
returns g c =
    let within = edge-in g.N.Ring.Whole.numbers.ring c.args.self.now.folded.now c.args.edge c.requires in
    ap (λ (xs : List Edge). (edge_at xs c.args.edge).letter) c.edges.ensures.edges
    ∙ sym (ap (λ (x : FoldedEdge). x.letter) (edge-at g.N.Ring.Whole.numbers.ring c.args.self.now.folded.now c.args.edge within))
