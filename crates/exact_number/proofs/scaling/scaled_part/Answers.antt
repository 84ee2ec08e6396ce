use Rattle.std.proofs.Common.{◌≡◌, ◌∙◌, ap, sym, subst, rules, arith, ◌≤◌, ◌<◌, ◌^◌, ◌*ℤ◌}
use Rattle.std.specs.Prelude.{unsigned_abs, int_div, FitsSigned}
use Rattle.std.specs.Int.{w128}
use Rattle.std.proofs.lemmas.Int.{to_z-of_z}
use Rattle.exact_number.proofs.ExactParts.{no_rest_of_divisor, divisor_of_no_rest, part_times}
use Rattle.exact_number.proofs.scaling.scaled_part.Goals as goal

pub returns-then-common-q-ne0 : goal.returns-then-common-q-ne0
returns-then-common-q-ne0 c =
    λ h. c.if-common-q-ne0.true (no_rest_of_divisor c.args.part c.args.q c.args.common c.ranges.part c.ranges.q c.ranges.common c.requires.q_positive c.requires.common_positive h.0)

pub returns-then-unsigned_abs-le-MOST_SCALED : goal.returns-then-unsigned_abs-le-MOST_SCALED
returns-then-unsigned_abs-le-MOST_SCALED c =
    let fits : FitsSigned w128 c.in_ok-scaled.scaled = search rules in
    let unwrapped = to_z-of_z w128 c.in_ok-scaled.scaled fits in
    let is = part_times c.args.part c.args.q c.args.common c.ranges.part c.ranges.q c.ranges.common c.requires.q_positive c.requires.common_positive c.in_ok-scaled.scaled c.in_ok-scaled.ensures.1 in
    let size : c.unsigned_abs.result ≡ unsigned_abs (c.args.part *ℤ int_div c.args.common c.args.q) = c.unsigned_abs.ensures.value ∙ ap unsigned_abs (unwrapped ∙ is) in (
      (
        divisor_of_no_rest c.args.part c.args.q c.args.common c.ranges.part c.ranges.q c.ranges.common c.requires.q_positive c.requires.common_positive c.if-common-q-ne0.false,
        subst (λ n. n ≤ 2 ^ 22) size c.if-unsigned_abs-le-MOST_SCALED.true,
      ),
      unwrapped ∙ is,
    )

pub returns-else-unsigned_abs-le-MOST_SCALED : goal.returns-else-unsigned_abs-le-MOST_SCALED
returns-else-unsigned_abs-le-MOST_SCALED c = λ h.
    let fits : FitsSigned w128 c.in_ok-scaled.scaled = search rules in
    let is = part_times c.args.part c.args.q c.args.common c.ranges.part c.ranges.q c.ranges.common c.requires.q_positive c.requires.common_positive c.in_ok-scaled.scaled c.in_ok-scaled.ensures.1 in
    let size : c.unsigned_abs.result ≡ unsigned_abs (c.args.part *ℤ int_div c.args.common c.args.q) = c.unsigned_abs.ensures.value ∙ ap unsigned_abs (to_z-of_z w128 c.in_ok-scaled.scaled fits ∙ is) in
    let small : c.unsigned_abs.result ≤ 4194304 = subst (λ n. n ≤ 4194304) (sym size) h.1 in
    let large : 4194304 < c.unsigned_abs.result = c.if-unsigned_abs-le-MOST_SCALED.false in
    omega (arith, small, large)
