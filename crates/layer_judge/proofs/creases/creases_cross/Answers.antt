use Rattle.layer_judge.specs.Judging.{layer_orders}
use Rattle.layer_judge.proofs.creases.creases_cross.Goals as goal

pub returns-in-None : goal.returns-in-None
returns-in-None g c = ((λ t. cc), (λ r. absurd (c.in-None.ensures _ _ r.other_crease.faces r.other_crease.lettered)))

pub returns-then-not-one_between : goal.returns-then-not-one_between
returns-then-not-one_between g c = (
  (λ t. cc),
  (λ r. let a = c.one_between.ensures.1 ((c.crossings_by_faces.ensures.creases g.S.Ring.Whole.numbers.ring (g.S.SheetView.sheet c.args.judged.now.sheet.now) (layer_orders c.args.judged.now.orders.now) c.requires.folded _ _ _ _ _ _ c.requires.crease.uncut.faces c.in-Some.ensures.1.uncut.faces c.requires.crease.lettered c.in-Some.ensures.1.lettered).0 r).3 in let b = c.if-not-one_between.true in absurd (cc)),
)

pub returns-then-not-edges_run_together : goal.returns-then-not-edges_run_together
returns-then-not-edges_run_together g c = (
  (λ t. cc),
  (λ r. let a = c.edges_run_together.ensures.1 ((c.crossings_by_faces.ensures.creases g.S.Ring.Whole.numbers.ring (g.S.SheetView.sheet c.args.judged.now.sheet.now) (layer_orders c.args.judged.now.orders.now) c.requires.folded _ _ _ _ _ _ c.requires.crease.uncut.faces c.in-Some.ensures.1.uncut.faces c.requires.crease.lettered c.in-Some.ensures.1.lettered).0 r).1 in let b = c.if-not-edges_run_together.true in absurd (cc)),
)

pub returns-else-not-edges_run_together : goal.returns-else-not-edges_run_together
returns-else-not-edges_run_together g c = (
  (λ t. (c.crossings_by_faces.ensures.creases g.S.Ring.Whole.numbers.ring (g.S.SheetView.sheet c.args.judged.now.sheet.now) (layer_orders c.args.judged.now.orders.now) c.requires.folded _ _ _ _ _ _ c.requires.crease.uncut.faces c.in-Some.ensures.1.uncut.faces c.requires.crease.lettered c.in-Some.ensures.1.lettered).1 (c.requires.ordered, c.edges_run_together.ensures.0 c.if-not-edges_run_together.false, c.are_beside.ensures.0 t, c.one_between.ensures.0 c.if-not-one_between.false)),
  (λ r. c.are_beside.ensures.1 ((c.crossings_by_faces.ensures.creases g.S.Ring.Whole.numbers.ring (g.S.SheetView.sheet c.args.judged.now.sheet.now) (layer_orders c.args.judged.now.orders.now) c.requires.folded _ _ _ _ _ _ c.requires.crease.uncut.faces c.in-Some.ensures.1.uncut.faces c.requires.crease.lettered c.in-Some.ensures.1.lettered).0 r).2),
)
