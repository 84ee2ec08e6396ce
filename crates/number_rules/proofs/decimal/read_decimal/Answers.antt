use Rattle.std.proofs.Common.{rules, arith, FitsSigned, subst, sym, List, ℕ, ◌≤◌, length, le_trans}
use mir.Syntax.{w64}
use Rattle.std.proofs.lemmas.Int.{to_z-of_z}
use Rattle.number_rules.proofs.Exponents.{decimal_of_parts, is_readable}
use Rattle.number_rules.proofs.decimal.read_decimal.Goals as goal

pub returns-clause-value : goal.returns-clause-value
returns-clause-value c =
    let fits : FitsSigned w64 c.whole_digits.result = search rules in
    let small : length c.mantissa_and_exponent.result.0.now ≤ 16777216
    = le_trans c.mantissa_and_exponent.ensures.within (subst (λ (t : List ℕ). length t ≤ 16777216) (sym c.bytes.ensures.same) c.requires) in
    decimal_of_parts c.args.text.now c.bytes.result.now c.mantissa_and_exponent.result.0.now c.mantissa_and_exponent.result.1.now c.decimal_of_digits.result c.whole_digits.result c.bytes.ensures.same
    c.mantissa_and_exponent.ensures.before c.mantissa_and_exponent.ensures.behind small c.whole_digits.ensures (rw (to_z-of_z w64 c.whole_digits.result fits) at c.decimal_of_digits.ensures)

pub returns-clause-readable : goal.returns-clause-readable
returns-clause-readable c = is_readable _ _ c.decimal_of_digits.result (c.decimal_of_digits.ensures 1 (omega arith))
