use Rattle.std.proofs.Common.{◌≡◌, ◌∙◌, ◌+◌, length, sym, subst, arith}
use Rattle.std.proofs.lemmas.List.{length-map}
use Rattle.layer_judge.specs.Judging.{as_layer_order, layer_orders}
use Rattle.layer_judge.proofs.Taking.{AgreeBefore, TellsBefore, agree_all, agree_more, order_at, tells_all, tells_more}
use Rattle.layer_judge.proofs.reading.take_up_all.Goals as goal

pub loop-place-preserved : goal.loop-place-preserved
loop-place-preserved g c =
    let taken = c.take_up.ensures.taken c.if-not-take_up.false in
    record {
      count = c.take_up.ensures.count ∙ c.loop-place.invariant.count;
      tells = subst (λ n. TellsBefore (g.S.SheetView.sheet c.args.sheet.now) (layer_orders c.args.orders.now) (c.loop-place.place + 1) n c.take_up.new.ranking.cells.items) (sym c.take_up.ensures.count) (tells_more (g.S.SheetView.sheet c.args.sheet.now) (layer_orders c.args.orders.now) c.loop-place.place c.loop-place.ranking.count c.loop-place.ranking.cells.items _ (order_at c.args.orders.now c.loop-place.place _ (omega arith)) c.loop-place.invariant.tells _ taken);
      agree = agree_more (g.S.SheetView.sheet c.args.sheet.now) (layer_orders c.args.orders.now) c.loop-place.place c.loop-place.ranking.count c.loop-place.ranking.cells.items _ (order_at c.args.orders.now c.loop-place.place _ (omega arith)) c.loop-place.invariant.tells _ taken c.loop-place.invariant.agree;
    }

pub returns-clause-tells : goal.returns-clause-tells
returns-clause-tells g c =
    let all : c.loop-place.place ≡ length (layer_orders c.args.orders.now) = omega (arith, length-map c.args.orders.now as_layer_order) in
    tells_all (g.S.SheetView.sheet c.args.sheet.now) (layer_orders c.args.orders.now) c.loop-place.ranking.count c.loop-place.ranking.cells.items (subst (λ k. TellsBefore (g.S.SheetView.sheet c.args.sheet.now) (layer_orders c.args.orders.now) k c.loop-place.ranking.count c.loop-place.ranking.cells.items) all c.loop-place.invariant.tells)

pub returns-clause-agrees : goal.returns-clause-agrees
returns-clause-agrees g c =
    let all : c.loop-place.place ≡ length (layer_orders c.args.orders.now) = omega (arith, length-map c.args.orders.now as_layer_order) in
    agree_all (g.S.SheetView.sheet c.args.sheet.now) (layer_orders c.args.orders.now) (subst (AgreeBefore (g.S.SheetView.sheet c.args.sheet.now) (layer_orders c.args.orders.now)) all c.loop-place.invariant.agree)
