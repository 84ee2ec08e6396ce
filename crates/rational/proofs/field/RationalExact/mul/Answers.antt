use Rattle.std.proofs.Common.{◌∙◌, sym, subst, refl, rules, pos, ◌*ℤ◌, ◌<ℤ◌, arith}
use Rattle.std.specs.Int.{w128}
use Rattle.std.proofs.lemmas.Int.{to_z-of_z, ints}
use Rattle.algebra.specs.NumberFormulas.{product}
use Rattle.algebra.proofs.NumberParts.{product_positive, product_rational}
use Rattle.exact_number.proofs.Answered.{formed}
use Rattle.rational.specs.Rationals.{rational_parts, rational_numbers}
use Rattle.rational.proofs.Reduced.{same_number}
use Rattle.rational.proofs.field.RationalExact.mul.Goals as goal

pub reduced-requires : goal.reduced-requires
reduced-requires c =
    let x = c.args.self in
    let y = c.args.other in
    let q = formed ◌*ℤ◌ x.q y.q x.q y.q (to_z-of_z w128 x.q (search rules)) (to_z-of_z w128 y.q (search rules)) c.in_ok-q.q c.in_ok-q.ensures.answer in
    subst (λ n. pos 0 <ℤ n) (sym (to_z-of_z w128 c.in_ok-q.q (search rules) ∙ q.1)) (product_positive x.q y.q x.lowest.lowest.positive y.lowest.lowest.positive)

pub returns-clause-answer : goal.returns-clause-answer
returns-clause-answer c =
    let x = c.args.self in
    let y = c.args.other in
    let a = formed ◌*ℤ◌ x.a y.a x.a y.a (to_z-of_z w128 x.a (search rules)) (to_z-of_z w128 y.a (search rules)) c.in_ok-a.a c.in_ok-a.ensures.answer in
    let q = formed ◌*ℤ◌ x.q y.q x.q y.q (to_z-of_z w128 x.q (search rules)) (to_z-of_z w128 y.q (search rules)) c.in_ok-q.q c.in_ok-q.ensures.answer in (
      (a.0, (q.0, tt)),
      same_number (product 1 (rational_parts x) (rational_parts y)) c.in_ok-a.a c.in_ok-q.q c.reduced.result (rational_numbers.mul x y)
          (to_z-of_z w128 c.in_ok-a.a (search rules) ∙ a.1 ∙ omega (arith, ints)) (to_z-of_z w128 c.in_ok-q.q (search rules) ∙ q.1)
          (product_rational 1 (rational_parts x) (rational_parts y) x.lowest y.lowest refl)
          (product_positive x.q y.q x.lowest.lowest.positive y.lowest.lowest.positive) c.reduced.ensures (rational_numbers.product_is x y),
    )
