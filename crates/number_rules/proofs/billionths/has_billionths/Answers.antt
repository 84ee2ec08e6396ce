use Rattle.std.proofs.Common.{rules, FitsSigned, ◌≡◌, ◌≤◌, Bool, false, IsTrue, subst, sym, List, ℕ, ℤ, length, le_trans}
use Rattle.std.specs.Prelude.{◌↔◌, unsigned_abs}
use Rattle.number_rules.specs.Value.{begins_with_minus, with_sign}
use mir.Syntax.{w64, w128}
use Rattle.std.proofs.lemmas.Int.{to_z-of_z}
use Rattle.number_rules.proofs.Counts.{billionths_of_parts}
use Rattle.number_rules.proofs.billionths.has_billionths.Goals as goal

pub returns-then-have_size : goal.returns-then-have_size
returns-then-have_size c =
    let fits : FitsSigned w64 c.whole_digits-before.result = search rules in
    let short : length c.mantissa_and_exponent.result.0.now ≤ 16777216
    = le_trans c.mantissa_and_exponent.ensures.within (subst (λ (t : List ℕ). length t ≤ 16777216) (sym c.bytes.ensures.same) c.requires.length) in
    let parts = billionths_of_parts c.args.text.now c.bytes.result.now c.mantissa_and_exponent.result.0.now c.mantissa_and_exponent.result.1.now c.whole_digits-before.result c.args.count
    c.bytes.ensures.same c.mantissa_and_exponent.ensures.before c.mantissa_and_exponent.ensures.behind short c.requires.count c.whole_digits-before.ensures in
    let wide : FitsSigned w128 c.args.count = search rules in
    let size : c.unsigned_abs.result ≡ unsigned_abs c.args.count = subst (λ z. c.unsigned_abs.result ≡ unsigned_abs z) (to_z-of_z w128 c.args.count wide) c.unsigned_abs.ensures.value in
    let sized = rw size at (rw (to_z-of_z w64 c.whole_digits-before.result fits) at c.have_size.ensures) in
    let P : Bool → ℤ → Type 0 = λ minus z. IsTrue c.has_sign.result ↔ (z ≡ with_sign minus (unsigned_abs z)) in
    let side : P (begins_with_minus c.mantissa_and_exponent.result.0.now) c.args.count = subst (λ minus. P minus c.args.count) c.is_negative.ensures
    (subst (P c.is_negative.result) (to_z-of_z w128 c.args.count wide) c.has_sign.ensures) in
    ((λ t. parts.0 (sized.0 c.if-have_size.true, side.0 t)), (λ h. let both = parts.1 h in side.1 both.1))

pub returns-else-have_size : goal.returns-else-have_size
returns-else-have_size c =
    let fits : FitsSigned w64 c.whole_digits-before.result = search rules in
    let short : length c.mantissa_and_exponent.result.0.now ≤ 16777216
    = le_trans c.mantissa_and_exponent.ensures.within (subst (λ (t : List ℕ). length t ≤ 16777216) (sym c.bytes.ensures.same) c.requires.length) in
    let parts = billionths_of_parts c.args.text.now c.bytes.result.now c.mantissa_and_exponent.result.0.now c.mantissa_and_exponent.result.1.now c.whole_digits-before.result c.args.count
    c.bytes.ensures.same c.mantissa_and_exponent.ensures.before c.mantissa_and_exponent.ensures.behind short c.requires.count c.whole_digits-before.ensures in
    let wide : FitsSigned w128 c.args.count = search rules in
    let size : c.unsigned_abs.result ≡ unsigned_abs c.args.count = subst (λ z. c.unsigned_abs.result ≡ unsigned_abs z) (to_z-of_z w128 c.args.count wide) c.unsigned_abs.ensures.value in
    let sized = rw size at (rw (to_z-of_z w64 c.whole_digits-before.result fits) at c.have_size.ensures) in
    let no : c.have_size.result ≡ false = search rules in
    ((λ t. absurd (cc)), (λ h. let both = parts.1 h in sized.1 both.0))
