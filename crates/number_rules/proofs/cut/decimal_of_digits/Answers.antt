use Rattle.std.proofs.Common.{rules, FitsSigned, subst, ◌-ℤ◌, pos, ◌*◌, ◌^◌, ℤ}
use mir.Syntax.{w64}
use Rattle.std.proofs.lemmas.Int.{to_z-of_z}
use Rattle.number_rules.specs.Value.{with_sign, spelled, count_digits, above_zero, below_zero}
use Rattle.number_rules.specs.Rounded.{IsSteps}
use Rattle.number_rules.proofs.cut.decimal_of_digits.Goals as goal

pub returns : goal.returns
returns c =
    let fits : FitsSigned w64 c.args.before = search rules in
    let place : ℤ = c.args.before -ℤ pos (count_digits c.args.bytes.now) in
    λ f some.
    subst (λ n. IsSteps (with_sign n (spelled c.args.bytes.now * 10 ^ above_zero place * f)) (10 ^ below_zero place * f) c.decimal.result) c.is_negative.ensures
    (c.decimal.ensures (spelled c.args.bytes.now) (count_digits c.args.bytes.now) c.args.before (rw (to_z-of_z w64 c.args.before fits) at c.cut_of_digits.ensures.shows) f some)
