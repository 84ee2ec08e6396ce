use Rattle.std.proofs.Common.{◌∙◌, ap, sym, subst, arith, rules, ℤ, pos, neg_ℤ, ◌<ℤ◌, ◌≤ℤ◌, ◌≡◌}
use Rattle.std.specs.Prelude.{FitsSigned}
use Rattle.std.specs.Int.{w128, cast_signed, cast_unsigned}
use borrow.Author.Differences.{ints}
use Rattle.std.proofs.lemmas.Int.{to_z-of_z}
use Rattle.std.specs.declared.cmp.Ordering.TheVariants.{Equal}
use Rattle.algebra.specs.NumberFormulas.{by_conjugate, negated, parts_sign}
use Rattle.exact_number.proofs.Answered.{refused}
use Rattle.root_two.specs.Roots.{root_parts, root_numbers}
use Rattle.root_two.proofs.Forms.{from_wide, to_wide}
use Rattle.root_two.proofs.Numbers.{positive_as, same_number, quotient_as}
use Rattle.root_two.proofs.Quotients.{upright_above, fit_above, upright_below, negated_positive, fit_below, negations_fit}
use Rattle.root_two.proofs.number.RootExact.div.Goals as goal

pub returns-in_err-negation-clause-answer : goal.returns-in_err-negation-clause-answer
returns-in_err-negation-clause-answer g c =
    let in_a = to_z-of_z w128 c.in_ok-a.a (search rules) ∙ ap (λ (t : ℤ × ℤ × ℤ). t.0) c.in_ok-a.ensures.answer.1 in
    let in_q = to_z-of_z w128 c.in_ok-a.q (search rules) ∙ ap (λ (t : ℤ × ℤ × ℤ). t.2) c.in_ok-a.ensures.answer.1 in
    let divisor = λ (z : parts_sign g.R.Radicand.K (root_parts c.args.other) ≡ Equal). c.requires ((root_numbers g.R.Radicand).sign_is c.args.other ∙ z) in
    let q_below : cast_signed w128 (cast_unsigned w128 c.in_ok-a.q) ≤ℤ pos 0 = omega (arith, ints) in
    let below = subst (λ (t : ℤ). t ≤ℤ pos 0) in_q q_below in
    refused c.from_residual-in_err-negation.result _ _ c.from_residual-in_err-negation.ensures.0
    (λ wide. let all = from_wide g.R.Radicand _ _ wide in c.in_err-negation.ensures.answer (subst (λ (t : ℤ). FitsSigned w128 (neg_ℤ t)) (sym in_a) (negations_fit g.R.Radicand.K (root_parts c.args.self) (root_parts c.args.other) c.args.self.lowest.lowest.positive below divisor all).0))

pub returns-in_err-negation-2-clause-answer : goal.returns-in_err-negation-2-clause-answer
returns-in_err-negation-2-clause-answer g c =
    let in_b = to_z-of_z w128 c.in_ok-a.b (search rules) ∙ ap (λ (t : ℤ × ℤ × ℤ). t.1) c.in_ok-a.ensures.answer.1 in
    let in_q = to_z-of_z w128 c.in_ok-a.q (search rules) ∙ ap (λ (t : ℤ × ℤ × ℤ). t.2) c.in_ok-a.ensures.answer.1 in
    let divisor = λ (z : parts_sign g.R.Radicand.K (root_parts c.args.other) ≡ Equal). c.requires ((root_numbers g.R.Radicand).sign_is c.args.other ∙ z) in
    let q_below : cast_signed w128 (cast_unsigned w128 c.in_ok-a.q) ≤ℤ pos 0 = omega (arith, ints) in
    let below = subst (λ (t : ℤ). t ≤ℤ pos 0) in_q q_below in
    refused c.from_residual-in_err-negation-2.result _ _ c.from_residual-in_err-negation-2.ensures.0
    (λ wide. let all = from_wide g.R.Radicand _ _ wide in c.in_err-negation-2.ensures.answer (subst (λ (t : ℤ). FitsSigned w128 (neg_ℤ t)) (sym in_b) (negations_fit g.R.Radicand.K (root_parts c.args.self) (root_parts c.args.other) c.args.self.lowest.lowest.positive below divisor all).1.0))

pub returns-in_err-negation-3-clause-answer : goal.returns-in_err-negation-3-clause-answer
returns-in_err-negation-3-clause-answer g c =
    let in_q = to_z-of_z w128 c.in_ok-a.q (search rules) ∙ ap (λ (t : ℤ × ℤ × ℤ). t.2) c.in_ok-a.ensures.answer.1 in
    let divisor = λ (z : parts_sign g.R.Radicand.K (root_parts c.args.other) ≡ Equal). c.requires ((root_numbers g.R.Radicand).sign_is c.args.other ∙ z) in
    let q_below : cast_signed w128 (cast_unsigned w128 c.in_ok-a.q) ≤ℤ pos 0 = omega (arith, ints) in
    let below = subst (λ (t : ℤ). t ≤ℤ pos 0) in_q q_below in
    refused c.from_residual-in_err-negation-3.result _ _ c.from_residual-in_err-negation-3.ensures.0
    (λ wide. let all = from_wide g.R.Radicand _ _ wide in c.in_err-negation-3.ensures.answer (subst (λ (t : ℤ). FitsSigned w128 (neg_ℤ t)) (sym in_q) (negations_fit g.R.Radicand.K (root_parts c.args.self) (root_parts c.args.other) c.args.self.lowest.lowest.positive below divisor all).1.1.0))

pub reduced-requires-else-q-gt0 : goal.reduced-requires-else-q-gt0
reduced-requires-else-q-gt0 g c =
    let in_q = to_z-of_z w128 c.in_ok-a.q (search rules) ∙ ap (λ (t : ℤ × ℤ × ℤ). t.2) c.in_ok-a.ensures.answer.1 in
    let divisor = λ (z : parts_sign g.R.Radicand.K (root_parts c.args.other) ≡ Equal). c.requires ((root_numbers g.R.Radicand).sign_is c.args.other ∙ z) in
    let q_below : cast_signed w128 (cast_unsigned w128 c.in_ok-a.q) ≤ℤ pos 0 = omega (arith, ints) in
    let below = subst (λ (t : ℤ). t ≤ℤ pos 0) in_q q_below in
    let minus_q = to_z-of_z w128 c.in_ok-negation-3.field-0 (search rules) ∙ c.in_ok-negation-3.ensures.answer.1 ∙ ap neg_ℤ in_q in
    positive_as _ _ minus_q (negated_positive g.R.Radicand.K (root_parts c.args.self) (root_parts c.args.other) c.args.self.lowest.lowest.positive below divisor)

pub returns-then-q-gt0-clause-answer : goal.returns-then-q-gt0-clause-answer
returns-then-q-gt0-clause-answer g c =
    let in_a = to_z-of_z w128 c.in_ok-a.a (search rules) ∙ ap (λ (t : ℤ × ℤ × ℤ). t.0) c.in_ok-a.ensures.answer.1 in
    let in_b = to_z-of_z w128 c.in_ok-a.b (search rules) ∙ ap (λ (t : ℤ × ℤ × ℤ). t.1) c.in_ok-a.ensures.answer.1 in
    let in_q = to_z-of_z w128 c.in_ok-a.q (search rules) ∙ ap (λ (t : ℤ × ℤ × ℤ). t.2) c.in_ok-a.ensures.answer.1 in
    let q_above : pos 0 <ℤ cast_signed w128 (cast_unsigned w128 c.in_ok-a.q) = omega (arith, ints) in
    let above = subst (λ (t : ℤ). pos 0 <ℤ t) in_q q_above in (
      to_wide g.R.Radicand _ _ (fit_above g.R.Radicand.K (root_parts c.args.self) (root_parts c.args.other) c.args.self.lowest.lowest.positive above c.in_ok-a.ensures.answer.0),
      same_number g.R.Radicand (by_conjugate g.R.Radicand.K (root_parts c.args.self) (root_parts c.args.other)) _ _ _ c.reduced.result _ in_a in_b in_q above c.reduced.ensures
          (quotient_as g.R.Radicand c.args.self c.args.other _ (upright_above g.R.Radicand.K (root_parts c.args.self) (root_parts c.args.other) c.args.self.lowest.lowest.positive above) c.requires),
    )

pub returns-in_ok-negation-3-clause-answer : goal.returns-in_ok-negation-3-clause-answer
returns-in_ok-negation-3-clause-answer g c =
    let in_a = to_z-of_z w128 c.in_ok-a.a (search rules) ∙ ap (λ (t : ℤ × ℤ × ℤ). t.0) c.in_ok-a.ensures.answer.1 in
    let in_b = to_z-of_z w128 c.in_ok-a.b (search rules) ∙ ap (λ (t : ℤ × ℤ × ℤ). t.1) c.in_ok-a.ensures.answer.1 in
    let in_q = to_z-of_z w128 c.in_ok-a.q (search rules) ∙ ap (λ (t : ℤ × ℤ × ℤ). t.2) c.in_ok-a.ensures.answer.1 in
    let divisor = λ (z : parts_sign g.R.Radicand.K (root_parts c.args.other) ≡ Equal). c.requires ((root_numbers g.R.Radicand).sign_is c.args.other ∙ z) in
    let q_below : cast_signed w128 (cast_unsigned w128 c.in_ok-a.q) ≤ℤ pos 0 = omega (arith, ints) in
    let below = subst (λ (t : ℤ). t ≤ℤ pos 0) in_q q_below in
    let minus_a = to_z-of_z w128 c.in_ok-negation.field-0 (search rules) ∙ c.in_ok-negation.ensures.answer.1 ∙ ap neg_ℤ in_a in
    let minus_b = to_z-of_z w128 c.in_ok-negation-2.field-0 (search rules) ∙ c.in_ok-negation-2.ensures.answer.1 ∙ ap neg_ℤ in_b in
    let minus_q = to_z-of_z w128 c.in_ok-negation-3.field-0 (search rules) ∙ c.in_ok-negation-3.ensures.answer.1 ∙ ap neg_ℤ in_q in
    let minus_fit = λ (m n : ℤ) (e : m ≡ n) (h : FitsSigned w128 (neg_ℤ m)). subst (λ (t : ℤ). FitsSigned w128 (neg_ℤ t)) e h in (
      to_wide g.R.Radicand _ _ (fit_below g.R.Radicand.K (root_parts c.args.self) (root_parts c.args.other) c.args.self.lowest.lowest.positive below divisor c.in_ok-a.ensures.answer.0
          (minus_fit _ _ in_a c.in_ok-negation.ensures.answer.0, (minus_fit _ _ in_b c.in_ok-negation-2.ensures.answer.0, (minus_fit _ _ in_q c.in_ok-negation-3.ensures.answer.0, tt)))),
      same_number g.R.Radicand (negated (by_conjugate g.R.Radicand.K (root_parts c.args.self) (root_parts c.args.other))) _ _ _ c.reduced-else-q-gt0.result _ minus_a minus_b minus_q
          (negated_positive g.R.Radicand.K (root_parts c.args.self) (root_parts c.args.other) c.args.self.lowest.lowest.positive below divisor) c.reduced-else-q-gt0.ensures
          (quotient_as g.R.Radicand c.args.self c.args.other _ (upright_below g.R.Radicand.K (root_parts c.args.self) (root_parts c.args.other) c.args.self.lowest.lowest.positive below divisor) c.requires),
    )
