use Rattle.std.proofs.Common.{refl}
use Rattle.layer_judge.proofs.Edges.{two_faced}
use Rattle.layer_judge.proofs.judged.Judged.faces.Goals as goal

pub returns-in-Some : goal.returns-in-Some
returns-in-Some g c = (
  refl,
  two_faced g.S.Ring.Whole.numbers.ring (g.S.SheetView.sheet c.args.self.now.sheet.now) c.args.edge c.sides-sides.result c.sides-sides.ensures.sides c.requires c.sides-sides.ensures.sided c.in-Some.second c.in-Some.is,
)
