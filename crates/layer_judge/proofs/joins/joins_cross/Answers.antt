use Rattle.layer_judge.specs.Judging.{layer_orders}
use Rattle.layer_judge.proofs.joins.joins_cross.Goals as goal

pub returns-in-None : goal.returns-in-None
returns-in-None g c = ((λ t. cc), (λ r. absurd (c.in-None.ensures _ _ r.other_join.faces r.other_join.lettered)))

pub returns-then-not-either_changes : goal.returns-then-not-either_changes
returns-then-not-either_changes g c = (
  (λ t. cc),
  (λ r. let a = c.either_changes.ensures.1 ((c.crossings_by_faces.ensures.joins g.S.Ring.Whole.numbers.ring (g.S.SheetView.sheet c.args.judged.now.sheet.now) (layer_orders c.args.judged.now.orders.now) c.requires.folded _ _ _ _ _ _ c.requires.join.uncut.faces c.in-Some.ensures.1.uncut.faces c.requires.join.lettered c.in-Some.ensures.1.lettered).0 r).2 in let b = c.if-not-either_changes.true in absurd (cc)),
)

pub returns-else-not-either_changes : goal.returns-else-not-either_changes
returns-else-not-either_changes g c = (
  (λ t. (c.crossings_by_faces.ensures.joins g.S.Ring.Whole.numbers.ring (g.S.SheetView.sheet c.args.judged.now.sheet.now) (layer_orders c.args.judged.now.orders.now) c.requires.folded _ _ _ _ _ _ c.requires.join.uncut.faces c.in-Some.ensures.1.uncut.faces c.requires.join.lettered c.in-Some.ensures.1.lettered).1 (c.requires.ordered, c.edges_run_together.ensures.0 t, c.either_changes.ensures.0 c.if-not-either_changes.false)),
  (λ r. c.edges_run_together.ensures.1 (record { line = r.line; together = r.together })),
)
