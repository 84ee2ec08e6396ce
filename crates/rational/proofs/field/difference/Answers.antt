use Rattle.std.proofs.Common.{◌∙◌, rules, ◌-ℤ◌, ◌*ℤ◌}
use Rattle.std.specs.Int.{w128}
use Rattle.std.proofs.lemmas.Int.{to_z-of_z}
use Rattle.exact_number.proofs.Answered.{refused, formed, not_formed}
use Rattle.rational.proofs.field.difference.Goals as goal

pub returns-in_err-a-clause-answer : goal.returns-in_err-a-clause-answer
returns-in_err-a-clause-answer c =
    let xa = to_z-of_z w128 c.args.x.a (search rules) in
    let xq = to_z-of_z w128 c.args.x.q (search rules) in
    let ya = to_z-of_z w128 c.args.y.a (search rules) in
    let yq = to_z-of_z w128 c.args.y.q (search rules) in
    let left = formed ◌*ℤ◌ c.args.x.a c.args.y.q c.args.x.a c.args.y.q xa yq c.in_ok-product.field-0 c.in_ok-product.ensures.answer in
    let right = formed ◌*ℤ◌ c.args.y.a c.args.x.q c.args.y.a c.args.x.q ya xq c.in_ok-product-2.field-0 c.in_ok-product-2.ensures.answer in
    let no_difference = not_formed ◌-ℤ◌ c.in_ok-product.field-0 c.in_ok-product-2.field-0 (c.args.x.a *ℤ c.args.y.q) (c.args.y.a *ℤ c.args.x.q)
    (to_z-of_z w128 c.in_ok-product.field-0 (search rules) ∙ left.1) (to_z-of_z w128 c.in_ok-product-2.field-0 (search rules) ∙ right.1) c.in_err-a.ensures.answer in
    refused _ _ _ c.from_residual-in_err-a.ensures.0 (λ h. no_difference h.1.1.0)

pub returns-in_err-q-clause-answer : goal.returns-in_err-q-clause-answer
returns-in_err-q-clause-answer c =
    let no_product = not_formed ◌*ℤ◌ c.args.x.q c.args.y.q c.args.x.q c.args.y.q (to_z-of_z w128 c.args.x.q (search rules)) (to_z-of_z w128 c.args.y.q (search rules)) c.in_err-q.ensures.answer in
    refused _ _ _ c.from_residual-in_err-q.ensures.0 (λ h. no_product h.1.1.1.0)
