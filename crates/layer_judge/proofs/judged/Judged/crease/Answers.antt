use Rattle.layers.specs.Sheets.{IsCrease}
use Rattle.layer_judge.proofs.Edges.{lettered_faces}
use Rattle.layer_judge.proofs.judged.Judged.crease.Goals as goal

pub returns : goal.returns
returns g c = lettered_faces g.S.Ring.Whole.numbers.ring (g.S.SheetView.sheet c.args.self.now.sheet.now) IsCrease c.args.edge c.letter.result c.letter.ensures (λ x. x) (c.is_crease.ensures.0 c.if-not-is_crease.false) c.requires c.faces.result c.faces.ensures
