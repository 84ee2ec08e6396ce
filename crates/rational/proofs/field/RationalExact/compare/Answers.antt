use Rattle.std.proofs.Common.{◌∙◌, ap, sym, rules, ℤ}
use Rattle.std.specs.Int.{w128}
use Rattle.std.proofs.lemmas.Int.{to_z-of_z}
use Rattle.algebra.specs.Order.{int_sign}
use Rattle.algebra.specs.NumberFormulas.{difference}
use Rattle.algebra.proofs.IntegerOrder.{compared_with_zero}
use Rattle.algebra.proofs.NumberParts.{product_positive}
use Rattle.exact_number.proofs.Answered.{handed}
use Rattle.rational.specs.Rationals.{rational_parts, rational_numbers}
use Rattle.rational.proofs.Reduced.{sign_of_rational, sign_reduced}
use Rattle.rational.proofs.field.RationalExact.compare.Goals as goal

pub returns-clause-answer : goal.returns-clause-answer
returns-clause-answer c =
    let x = c.args.self in
    let y = c.args.other in
    let numerator = to_z-of_z w128 c.in_ok-a.a (search rules) ∙ ap (λ (t : ℤ × ℤ). t.0) c.in_ok-a.ensures.answer.1 in (
      c.in_ok-a.ensures.answer.0,
      c.cmp.ensures ∙ compared_with_zero (handed c.in_ok-a.a) ∙ ap int_sign numerator
          ∙ sign_reduced (difference (rational_parts x) (rational_parts y)) (rational_parts (rational_numbers.sub x y))
          (product_positive x.q y.q x.lowest.lowest.positive y.lowest.lowest.positive) (rational_numbers.difference_is x y)
          ∙ sym (sign_of_rational (rational_numbers.sub x y)),
    )
