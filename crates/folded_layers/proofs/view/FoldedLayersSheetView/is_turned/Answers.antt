use Rattle.std.proofs.Common.{◌∙◌, sym}
use Rattle.folded_layers.proofs.ViewFacts.{face-in, turned-as}
use Rattle.folded_layers.proofs.view.FoldedLayersSheetView.is_turned.Goals as goal

pub turned-requires : goal.turned-requires
turned-requires g c = face-in g.N.Ring.Whole.numbers.ring c.args.self.now.folded.now c.args.face c.requires

pub returns : goal.returns
returns g c =
    c.turned.ensures
    ∙ sym (turned-as g.N.Ring.Whole.numbers.ring c.args.self.now.folded.now g.N.Exact.numbers.field c.args.face (face-in g.N.Ring.Whole.numbers.ring c.args.self.now.folded.now c.args.face c.requires))
