use Rattle.std.proofs.Common.{◌∙◌, ap, sym, List, length}
use Rattle.scaled_plane.specs.declared.drawing.Edge.{Edge}
use Rattle.folded_layers.proofs.ViewFacts.{edges-many}
use Rattle.folded_layers.proofs.view.FoldedLayersSheetView.edge_count.Goals as goal

pub returns : goal.returns
returns g c = ap (λ (xs : List Edge). length xs) c.edges.ensures.edges ∙ sym (edges-many g.N.Ring.Whole.numbers.ring c.args.self.now.folded.now)
