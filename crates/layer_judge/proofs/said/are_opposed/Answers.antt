use Rattle.std.proofs.Common.{refl, subst}
use Rattle.layers.specs.Orders.{Says}
use Rattle.layer_judge.specs.Judging.{as_layer_order}
use Rattle.layer_judge.proofs.said.are_opposed.Goals as goal

pub returns-in-None : goal.returns-in-None
returns-in-None g c = ((λ t. cc), (λ o. absurd (c.in-None.ensures _ _ o.first_says)))

pub returns-in-Some : goal.returns-in-Some
returns-in-Some g c = (
  (λ t. record { upper = c.in-Some.pair.0; lower = c.in-Some.pair.1; first_says = (c.in-Some.ensures _ _).1 (refl, refl); second_says = c.opposes.ensures.0 t }),
  (λ o.
      let p = (c.in-Some.ensures o.upper o.lower).0 o.first_says in
      c.opposes.ensures.1
      (subst (λ x. Says (g.S.SheetView.sheet c.args.sheet.now) (as_layer_order c.args.other) x c.in-Some.pair.0) p.1
      (subst (λ x. Says (g.S.SheetView.sheet c.args.sheet.now) (as_layer_order c.args.other) o.lower x) p.0 o.second_says))),
)
