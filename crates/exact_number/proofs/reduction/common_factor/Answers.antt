use Rattle.exact_number.proofs.ExactParts.{divisor_fits, divisor_above_zero, divisor_greatest}
use Rattle.exact_number.proofs.reduction.common_factor.Goals as goal

pub overflow_cast-result : goal.overflow_cast-result
overflow_cast-result c =
    divisor_fits c.args.a c.args.b c.args.q c.unsigned_abs.result c.unsigned_abs-2.result c.unsigned_abs-3.result c.gcd-numerator.result c.gcd.result c.ranges.a c.ranges.b c.ranges.q
    c.requires c.unsigned_abs.ensures.value c.unsigned_abs-2.ensures.value c.unsigned_abs-3.ensures.value c.gcd-numerator.ensures c.gcd.ensures

pub returns-clause-positive : goal.returns-clause-positive
returns-clause-positive c =
    divisor_above_zero c.args.a c.args.b c.args.q c.unsigned_abs.result c.unsigned_abs-2.result c.unsigned_abs-3.result c.gcd-numerator.result c.gcd.result c.ranges.a c.ranges.b c.ranges.q
    c.requires c.unsigned_abs.ensures.value c.unsigned_abs-2.ensures.value c.unsigned_abs-3.ensures.value c.gcd-numerator.ensures c.gcd.ensures

pub returns-clause-greatest : goal.returns-clause-greatest
returns-clause-greatest c =
    divisor_greatest c.args.a c.args.b c.args.q c.unsigned_abs.result c.unsigned_abs-2.result c.unsigned_abs-3.result c.gcd-numerator.result c.gcd.result c.ranges.a c.ranges.b c.ranges.q
    c.requires c.unsigned_abs.ensures.value c.unsigned_abs-2.ensures.value c.unsigned_abs-3.ensures.value c.gcd-numerator.ensures c.gcd.ensures
