use Rattle.std.proofs.Common.{inl, inr}
use Rattle.layers.specs.Orders.{Above, LiesBetween}
use Rattle.layer_judge.specs.Judging.{layer_orders}
use Rattle.layer_judge.proofs.Tests.{not_test}
use Rattle.layer_judge.proofs.creases.one_between.Goals as goal

pub returns-then-is_between : goal.returns-then-is_between
returns-then-is_between g c =
    let turned = not_test c.is_between-then-is_between.result (LiesBetween (Above (g.S.SheetView.sheet c.args.judged.now.sheet.now) (layer_orders c.args.judged.now.orders.now)) c.args.other.second c.args.crease.first c.args.crease.second) c.is_between-then-is_between.ensures in
    let here = c.is_between.ensures.0 c.if-is_between.true in
    ((λ t. inl (here, turned.0 t)), (λ o. elim o [ inl p ↦ turned.1 p.1 | inr p ↦ absurd (p.0 here) ]))

pub returns : goal.returns
returns g c = (
  (λ t. inr ((λ h. let a = c.is_between.ensures.1 h in let b = c.if-is_between.false in cc), c.is_between-2.ensures.0 t)),
  (λ o. elim o [
    | inl p ↦ let a = c.is_between.ensures.1 p.0 in let b = c.if-is_between.false in absurd (cc)
    | inr p ↦ c.is_between-2.ensures.1 p.1
  ]),
)
