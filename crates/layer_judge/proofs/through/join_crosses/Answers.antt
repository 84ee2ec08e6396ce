use Rattle.layer_judge.specs.Judging.{layer_orders}
use Rattle.layer_judge.proofs.through.join_crosses.Goals as goal

pub returns-in-None : goal.returns-in-None
returns-in-None g c = ((λ t. cc), (λ r. absurd (c.in-None.ensures _ _ r.join.faces r.join.lettered)))

pub returns-then-not-either_between : goal.returns-then-not-either_between
returns-then-not-either_between g c = (
  (λ t. cc),
  (λ r. let a = c.either_between.ensures.1 ((c.crossings_by_faces.ensures.crease_join g.S.Ring.Whole.numbers.ring (g.S.SheetView.sheet c.args.judged.now.sheet.now) (layer_orders c.args.judged.now.orders.now) c.requires.folded _ _ _ _ _ _ c.requires.crease.uncut.faces c.in-Some.ensures.1.uncut.faces c.requires.crease.lettered c.in-Some.ensures.1.lettered).0 r).1 in let b = c.if-not-either_between.true in absurd (cc)),
)

pub returns-else-not-either_between : goal.returns-else-not-either_between
returns-else-not-either_between g c = (
  (λ t. (c.crossings_by_faces.ensures.crease_join g.S.Ring.Whole.numbers.ring (g.S.SheetView.sheet c.args.judged.now.sheet.now) (layer_orders c.args.judged.now.orders.now) c.requires.folded _ _ _ _ _ _ c.requires.crease.uncut.faces c.in-Some.ensures.1.uncut.faces c.requires.crease.lettered c.in-Some.ensures.1.lettered).1 (c.edges_run_together.ensures.0 t, c.either_between.ensures.0 c.if-not-either_between.false)),
  (λ r. c.edges_run_together.ensures.1 (record { line = r.line; together = r.together })),
)
