use Rattle.std.proofs.Common.{[], ◌∷◌, ◌∙◌, sym, subst, refl, rules, pos, neg_ℤ, ◌*ℤ◌, ◌<ℤ◌}
use Rattle.std.specs.Int.{w128}
use Rattle.std.proofs.lemmas.Int.{to_z-of_z}
use Rattle.std.specs.declared.cmp.Ordering.TheVariants.{Less, Greater}
use Rattle.algebra.specs.NumberFormulas.{upright_at}
use Rattle.algebra.proofs.LowestForms.{positive_of_greater}
use Rattle.algebra.proofs.NumberParts.{product_positive}
use Rattle.exact_number.proofs.Answered.{refused, formed, not_formed}
use Rattle.exact_number.proofs.NegatedForms.{fit_below_zero, formed_below_zero, none_from_zero}
use Rattle.rational.specs.Rationals.{rational_numbers}
use Rattle.rational.proofs.Reduced.{same_number, quotient_reduced, sign_of_rational, below_zero_sign, from_zero_sign, negated_positive, tested_below_zero, tested_from_zero}
use Rattle.rational.proofs.field.RationalExact.div.Goals as goal

pub returns-in_err-negation-2-clause-answer : goal.returns-in_err-negation-2-clause-answer
returns-in_err-negation-2-clause-answer c =
    let x = c.args.self in
    let y = c.args.other in
    let q = formed ◌*ℤ◌ x.q y.a x.q y.a (to_z-of_z w128 x.q (search rules)) (to_z-of_z w128 y.a (search rules)) c.in_ok-q.q c.in_ok-q.ensures.answer in
    let q_is = to_z-of_z w128 c.in_ok-q.q (search rules) ∙ q.1 in
    let no_negation = not_formed (λ m n. neg_ℤ m) c.in_ok-q.q c.in_ok-q.q (x.q *ℤ y.a) (x.q *ℤ y.a) q_is q_is c.in_err-negation-2.ensures.answer in
    refused _ _ _ c.from_residual-in_err-negation-2.ensures.0 (λ h. no_negation (formed_below_zero y.a (neg_ℤ (x.a *ℤ y.q) ∷ neg_ℤ (x.q *ℤ y.a) ∷ []) (tested_below_zero y.a (search rules) c.if-other-lt0.true) h.1.1).1.0)

pub reduced-requires : goal.reduced-requires
reduced-requires c =
    let x = c.args.self in
    let y = c.args.other in
    let q = formed ◌*ℤ◌ x.q y.a x.q y.a (to_z-of_z w128 x.q (search rules)) (to_z-of_z w128 y.a (search rules)) c.in_ok-q.q c.in_ok-q.ensures.answer in
    let q_is = to_z-of_z w128 c.in_ok-q.q (search rules) ∙ q.1 in
    let denominator = formed (λ m n. neg_ℤ m) c.in_ok-q.q c.in_ok-q.q (x.q *ℤ y.a) (x.q *ℤ y.a) q_is q_is c.in_ok-negation-2.field-0 c.in_ok-negation-2.ensures.answer in
    subst (λ n. pos 0 <ℤ n) (sym (to_z-of_z w128 c.in_ok-negation-2.field-0 (search rules) ∙ denominator.1)) (negated_positive x.q y.a x.lowest.lowest.positive (tested_below_zero y.a (search rules) c.if-other-lt0.true))

pub reduced-requires-else-other-lt0 : goal.reduced-requires-else-other-lt0
reduced-requires-else-other-lt0 c =
    let x = c.args.self in
    let y = c.args.other in
    let q = formed ◌*ℤ◌ x.q y.a x.q y.a (to_z-of_z w128 x.q (search rules)) (to_z-of_z w128 y.a (search rules)) c.in_ok-q.q c.in_ok-q.ensures.answer in
    let divisor = positive_of_greater y.a (from_zero_sign y.a (tested_from_zero y.a (search rules) c.if-other-lt0.false) (λ e. c.requires (sign_of_rational y ∙ e))) in
    subst (λ n. pos 0 <ℤ n) (sym (to_z-of_z w128 c.in_ok-q.q (search rules) ∙ q.1)) (product_positive x.q y.a x.lowest.lowest.positive divisor)

pub returns-in_ok-negation-2-clause-answer : goal.returns-in_ok-negation-2-clause-answer
returns-in_ok-negation-2-clause-answer c =
    let x = c.args.self in
    let y = c.args.other in
    let a = formed ◌*ℤ◌ x.a y.q x.a y.q (to_z-of_z w128 x.a (search rules)) (to_z-of_z w128 y.q (search rules)) c.in_ok-a.a c.in_ok-a.ensures.answer in
    let q = formed ◌*ℤ◌ x.q y.a x.q y.a (to_z-of_z w128 x.q (search rules)) (to_z-of_z w128 y.a (search rules)) c.in_ok-q.q c.in_ok-q.ensures.answer in
    let a_is = to_z-of_z w128 c.in_ok-a.a (search rules) ∙ a.1 in
    let q_is = to_z-of_z w128 c.in_ok-q.q (search rules) ∙ q.1 in
    let numerator = formed (λ m n. neg_ℤ m) c.in_ok-a.a c.in_ok-a.a (x.a *ℤ y.q) (x.a *ℤ y.q) a_is a_is c.in_ok-negation.field-0 c.in_ok-negation.ensures.answer in
    let denominator = formed (λ m n. neg_ℤ m) c.in_ok-q.q c.in_ok-q.q (x.q *ℤ y.a) (x.q *ℤ y.a) q_is q_is c.in_ok-negation-2.field-0 c.in_ok-negation-2.ensures.answer in (
      (a.0, (q.0, fit_below_zero y.a _ (tested_below_zero y.a (search rules) c.if-other-lt0.true) (numerator.0, (denominator.0, tt)))),
      same_number (upright_at Less (record { a = x.a *ℤ y.q; b = pos 0; q = x.q *ℤ y.a })) c.in_ok-negation.field-0 c.in_ok-negation-2.field-0 c.reduced.result (rational_numbers.div x y)
          (to_z-of_z w128 c.in_ok-negation.field-0 (search rules) ∙ numerator.1) (to_z-of_z w128 c.in_ok-negation-2.field-0 (search rules) ∙ denominator.1) refl
          (negated_positive x.q y.a x.lowest.lowest.positive (tested_below_zero y.a (search rules) c.if-other-lt0.true)) c.reduced.ensures
          (quotient_reduced x y Less c.requires (below_zero_sign y.a (tested_below_zero y.a (search rules) c.if-other-lt0.true))),
    )

pub returns-else-other-lt0-clause-answer : goal.returns-else-other-lt0-clause-answer
returns-else-other-lt0-clause-answer c =
    let x = c.args.self in
    let y = c.args.other in
    let a = formed ◌*ℤ◌ x.a y.q x.a y.q (to_z-of_z w128 x.a (search rules)) (to_z-of_z w128 y.q (search rules)) c.in_ok-a.a c.in_ok-a.ensures.answer in
    let q = formed ◌*ℤ◌ x.q y.a x.q y.a (to_z-of_z w128 x.q (search rules)) (to_z-of_z w128 y.a (search rules)) c.in_ok-q.q c.in_ok-q.ensures.answer in
    let divisor = from_zero_sign y.a (tested_from_zero y.a (search rules) c.if-other-lt0.false) (λ e. c.requires (sign_of_rational y ∙ e)) in (
      (a.0, (q.0, none_from_zero y.a _ (tested_from_zero y.a (search rules) c.if-other-lt0.false))),
      same_number (record { a = x.a *ℤ y.q; b = pos 0; q = x.q *ℤ y.a }) c.in_ok-a.a c.in_ok-q.q c.reduced-else-other-lt0.result (rational_numbers.div x y)
          (to_z-of_z w128 c.in_ok-a.a (search rules) ∙ a.1) (to_z-of_z w128 c.in_ok-q.q (search rules) ∙ q.1) refl
          (product_positive x.q y.a x.lowest.lowest.positive (positive_of_greater y.a divisor)) c.reduced-else-other-lt0.ensures
          (quotient_reduced x y Greater c.requires divisor),
    )
