use Rattle.std.proofs.Common.{◌∙◌, ap, sym, subst, refl, rules, ℤ, pos, ◌<ℤ◌}
use Rattle.std.specs.Int.{w128}
use Rattle.std.proofs.lemmas.Int.{to_z-of_z}
use Rattle.algebra.specs.NumberFormulas.{difference}
use Rattle.algebra.proofs.NumberParts.{product_positive, difference_rational}
use Rattle.rational.specs.Rationals.{rational_parts, rational_numbers}
use Rattle.rational.proofs.Reduced.{same_number}
use Rattle.rational.proofs.field.RationalExact.sub.Goals as goal

pub reduced-requires : goal.reduced-requires
reduced-requires c =
    let x = c.args.self in
    let y = c.args.other in
    let denominator = to_z-of_z w128 c.in_ok-a.q (search rules) ∙ ap (λ (t : ℤ × ℤ). t.1) c.in_ok-a.ensures.answer.1 in
    subst (λ n. pos 0 <ℤ n) (sym denominator) (product_positive x.q y.q x.lowest.lowest.positive y.lowest.lowest.positive)

pub returns-clause-answer : goal.returns-clause-answer
returns-clause-answer c =
    let x = c.args.self in
    let y = c.args.other in
    let numerator = to_z-of_z w128 c.in_ok-a.a (search rules) ∙ ap (λ (t : ℤ × ℤ). t.0) c.in_ok-a.ensures.answer.1 in
    let denominator = to_z-of_z w128 c.in_ok-a.q (search rules) ∙ ap (λ (t : ℤ × ℤ). t.1) c.in_ok-a.ensures.answer.1 in (
      c.in_ok-a.ensures.answer.0,
      same_number (difference (rational_parts x) (rational_parts y)) c.in_ok-a.a c.in_ok-a.q c.reduced.result (rational_numbers.sub x y) numerator denominator
          (difference_rational 1 (rational_parts x) (rational_parts y) x.lowest y.lowest refl)
          (product_positive x.q y.q x.lowest.lowest.positive y.lowest.lowest.positive) c.reduced.ensures (rational_numbers.difference_is x y),
    )
