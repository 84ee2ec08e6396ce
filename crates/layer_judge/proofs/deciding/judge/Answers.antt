use Rattle.layer_judge.specs.Judging.{layer_orders}
use Rattle.layer_judge.proofs.Verdicts.{crosses_layered, crosses_verdict, first_unranked, fits_layered, fits_verdict}
use Rattle.layer_judge.proofs.deciding.judge.Goals as goal

pub returns-in-Some-clause-refused : goal.returns-in-Some-clause-refused
returns-in-Some-clause-refused g c = first_unranked g.S.Ring.Whole.numbers.ring (g.S.SheetView.sheet c.args.sheet.now) (layer_orders c.args.orders.now) c.in_ok-take_up_all.ensures.agrees (c.orders_rank_faces.ensures.one_way (g.S.SheetView.sheet c.args.sheet.now) (layer_orders c.args.orders.now)) c.in-Some.low c.in-Some.high c.in-Some.ensures

pub returns-in-None-clause-verdict : goal.returns-in-None-clause-verdict
returns-in-None-clause-verdict g c = fits_verdict g.S.Ring.Whole.numbers.ring (g.S.SheetView.sheet c.args.sheet.now) (layer_orders c.args.orders.now) c.in_ok-take_up_all.ensures.agrees (c.orders_rank_faces.ensures.one_way (g.S.SheetView.sheet c.args.sheet.now) (layer_orders c.args.orders.now)) c.in_default.ensures (c.orders_rank_faces.ensures.ranked g.S.Ring.Whole.numbers.ring (g.S.SheetView.sheet c.args.sheet.now) (layer_orders c.args.orders.now))
    (λ x. c.list_decides_points.ensures.kinds g.S.Ring.Whole.numbers.ring (g.S.SheetView.sheet c.args.sheet.now) (layer_orders c.args.orders.now) c.face_count.ensures.folded x) c.in-None.ensures

pub returns-in-None-clause-fits : goal.returns-in-None-clause-fits
returns-in-None-clause-fits g c = fits_layered g.S.Ring.Whole.numbers.ring (g.S.SheetView.sheet c.args.sheet.now) (layer_orders c.args.orders.now) c.in_ok-take_up_all.ensures.agrees (c.orders_rank_faces.ensures.one_way (g.S.SheetView.sheet c.args.sheet.now) (layer_orders c.args.orders.now)) c.in_default.ensures (c.orders_rank_faces.ensures.ranked g.S.Ring.Whole.numbers.ring (g.S.SheetView.sheet c.args.sheet.now) (layer_orders c.args.orders.now))
    (c.list_decides_points.ensures.whole g.S.Ring.Whole.numbers.ring (g.S.SheetView.sheet c.args.sheet.now) (layer_orders c.args.orders.now) c.face_count.ensures.folded) c.in-None.ensures

pub returns-clause-verdict : goal.returns-clause-verdict
returns-clause-verdict g c = crosses_verdict g.S.Ring.Whole.numbers.ring (g.S.SheetView.sheet c.args.sheet.now) (layer_orders c.args.orders.now) c.in_ok-take_up_all.ensures.agrees (c.orders_rank_faces.ensures.one_way (g.S.SheetView.sheet c.args.sheet.now) (layer_orders c.args.orders.now)) c.in_default.ensures (c.orders_rank_faces.ensures.ranked g.S.Ring.Whole.numbers.ring (g.S.SheetView.sheet c.args.sheet.now) (layer_orders c.args.orders.now))
    (λ x. c.list_decides_points.ensures.kinds g.S.Ring.Whole.numbers.ring (g.S.SheetView.sheet c.args.sheet.now) (layer_orders c.args.orders.now) c.face_count.ensures.folded x) c.in-Some-first_crossing.crossing c.in-Some-first_crossing.ensures

pub returns-clause-fits : goal.returns-clause-fits
returns-clause-fits g c = crosses_layered g.S.Ring.Whole.numbers.ring (g.S.SheetView.sheet c.args.sheet.now) (layer_orders c.args.orders.now) c.in_ok-take_up_all.ensures.agrees (c.orders_rank_faces.ensures.one_way (g.S.SheetView.sheet c.args.sheet.now) (layer_orders c.args.orders.now)) c.in_default.ensures (c.orders_rank_faces.ensures.ranked g.S.Ring.Whole.numbers.ring (g.S.SheetView.sheet c.args.sheet.now) (layer_orders c.args.orders.now))
    (c.list_decides_points.ensures.whole g.S.Ring.Whole.numbers.ring (g.S.SheetView.sheet c.args.sheet.now) (layer_orders c.args.orders.now) c.face_count.ensures.folded) c.in-Some-first_crossing.crossing c.in-Some-first_crossing.ensures.0
