use Rattle.layers.specs.Orders.{Above}
use Rattle.layers.specs.Points.{IsOnNormalSide}
use Rattle.layer_judge.specs.Judging.{layer_orders}
use Rattle.layer_judge.proofs.Tests.{not_test}
use Rattle.layer_judge.proofs.letters.mountain_fits.Goals as goal

pub returns : goal.returns
returns g c =
    let turned = not_test c.on_normal_side-2.result (IsOnNormalSide g.S.Ring.Whole.numbers.ring (g.S.SheetView.sheet c.args.judged.now.sheet.now) (Above (g.S.SheetView.sheet c.args.judged.now.sheet.now) (layer_orders c.args.judged.now.orders.now)) c.args.second c.args.first) c.on_normal_side-2.ensures in
    ((λ t. ((λ n. let a = c.on_normal_side.ensures.1 n in let b = c.if-on_normal_side.false in cc), turned.0 t)), (λ fits. turned.1 fits.1))
