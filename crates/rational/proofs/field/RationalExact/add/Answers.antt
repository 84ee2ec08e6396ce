use Rattle.std.proofs.Common.{◌∙◌, sym, subst, refl, rules, pos, ◌+ℤ◌, ◌*ℤ◌, ◌<ℤ◌}
use Rattle.std.specs.Int.{w128}
use Rattle.std.proofs.lemmas.Int.{to_z-of_z}
use Rattle.algebra.specs.NumberFormulas.{sum}
use Rattle.algebra.proofs.NumberParts.{product_positive, sum_rational}
use Rattle.exact_number.proofs.Answered.{refused, formed, not_formed}
use Rattle.rational.specs.Rationals.{rational_parts, rational_numbers}
use Rattle.rational.proofs.Reduced.{same_number}
use Rattle.rational.proofs.field.RationalExact.add.Goals as goal

pub returns-in_err-q-clause-answer : goal.returns-in_err-q-clause-answer
returns-in_err-q-clause-answer c =
    let x = c.args.self in
    let y = c.args.other in
    let no_product = not_formed ◌*ℤ◌ x.q y.q x.q y.q (to_z-of_z w128 x.q (search rules)) (to_z-of_z w128 y.q (search rules)) c.in_err-q.ensures.answer in
    refused _ _ _ c.from_residual-in_err-q.ensures.0 (λ h. no_product h.1.1.1.0)

pub reduced-requires : goal.reduced-requires
reduced-requires c =
    let x = c.args.self in
    let y = c.args.other in
    let q = formed ◌*ℤ◌ x.q y.q x.q y.q (to_z-of_z w128 x.q (search rules)) (to_z-of_z w128 y.q (search rules)) c.in_ok-q.q c.in_ok-q.ensures.answer in
    subst (λ n. pos 0 <ℤ n) (sym (to_z-of_z w128 c.in_ok-q.q (search rules) ∙ q.1)) (product_positive x.q y.q x.lowest.lowest.positive y.lowest.lowest.positive)

pub returns-clause-answer : goal.returns-clause-answer
returns-clause-answer c =
    let x = c.args.self in
    let y = c.args.other in
    let xa = to_z-of_z w128 x.a (search rules) in
    let xq = to_z-of_z w128 x.q (search rules) in
    let ya = to_z-of_z w128 y.a (search rules) in
    let yq = to_z-of_z w128 y.q (search rules) in
    let left = formed ◌*ℤ◌ x.a y.q x.a y.q xa yq c.in_ok-product.field-0 c.in_ok-product.ensures.answer in
    let right = formed ◌*ℤ◌ y.a x.q y.a x.q ya xq c.in_ok-product-2.field-0 c.in_ok-product-2.ensures.answer in
    let a = formed ◌+ℤ◌ c.in_ok-product.field-0 c.in_ok-product-2.field-0 (x.a *ℤ y.q) (y.a *ℤ x.q)
    (to_z-of_z w128 c.in_ok-product.field-0 (search rules) ∙ left.1) (to_z-of_z w128 c.in_ok-product-2.field-0 (search rules) ∙ right.1) c.in_ok-a.a c.in_ok-a.ensures.answer in
    let q = formed ◌*ℤ◌ x.q y.q x.q y.q xq yq c.in_ok-q.q c.in_ok-q.ensures.answer in (
      (left.0, (right.0, (a.0, (q.0, tt)))),
      same_number (sum (rational_parts x) (rational_parts y)) c.in_ok-a.a c.in_ok-q.q c.reduced.result (rational_numbers.add x y)
          (to_z-of_z w128 c.in_ok-a.a (search rules) ∙ a.1) (to_z-of_z w128 c.in_ok-q.q (search rules) ∙ q.1)
          (sum_rational 1 (rational_parts x) (rational_parts y) x.lowest y.lowest refl)
          (product_positive x.q y.q x.lowest.lowest.positive y.lowest.lowest.positive) c.reduced.ensures (rational_numbers.sum_is x y),
    )
