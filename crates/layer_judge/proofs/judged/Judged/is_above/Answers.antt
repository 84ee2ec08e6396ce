use Rattle.std.proofs.lemmas.Grind.{not_there}
use Rattle.layers.specs.Orders.{Above}
use Rattle.layer_judge.specs.Judging.{layer_orders}
use Rattle.layer_judge.specs.Rankings.{IsMarked}
use Rattle.layer_judge.proofs.Tests.{told}
use Rattle.layer_judge.proofs.judged.Judged.is_above.Goals as goal

pub returns : goal.returns
returns g c = told c.is_above.result (IsMarked c.args.self.now.ranking.now.count c.args.self.now.ranking.now.cells.items c.args.upper c.args.lower)
    (Above (g.S.SheetView.sheet c.args.self.now.sheet.now) (layer_orders c.args.self.now.orders.now) c.args.upper c.args.lower) c.is_above.ensures
    (λ differ. not_there c.args.self.now.tells (λ tells. differ (tells c.args.upper c.args.lower)))
    (c.orders_rank_faces.ensures.decided (g.S.SheetView.sheet c.args.self.now.sheet.now) (layer_orders c.args.self.now.orders.now) c.args.upper c.args.lower)
