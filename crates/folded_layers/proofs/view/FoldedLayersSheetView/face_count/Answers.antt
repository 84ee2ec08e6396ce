use Rattle.std.proofs.Common.{◌∙◌, ap, sym, List, length}
use Rattle.scaled_plane.specs.declared.drawing.Face.{Face}
use Rattle.folded_layers.proofs.ViewFacts.{faces-many}
use Rattle.folded_layers.proofs.view.FoldedLayersSheetView.face_count.Goals as goal

pub returns-clause-count : goal.returns-clause-count
returns-clause-count g c = ap (λ (xs : List Face). length xs) c.faces.ensures.faces ∙ sym (faces-many g.N.Ring.Whole.numbers.ring c.args.self.now.folded.now)
