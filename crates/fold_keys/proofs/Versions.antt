-- the version of a file by the decimal of its number
use Rattle.std.proofs.Common.{◌≡◌, ℕ, ℤ, pos, negsuc, suc, ◌+◌, ◌*◌, ◌/◌, ◌^◌, ◌<◌, ◌≤◌, ◌+ℤ◌, ◌*ℤ◌, ◌<ℤ◌, List, [], ◌∷◌, refl, sym, ◌∙◌, ap, subst, Bool, true, false, arith, mul_assoc, mul_comm, add-mul, one-mul, ◌==◌}
use Rattle.std.specs.Prelude.{unsigned_abs, nat_lt, neg_ℤ, not, ◌&&◌, if◌then◌else◌}
use Rattle.std.proofs.lemmas.Bool.{lt-ltb}
use Rattle.std.proofs.lemmas.Bool.Decides.{nat_tests}
use Rattle.std.proofs.Math.Nat.{one-le-pow}
use Rattle.algebra.proofs.Solvers.{ring, reads_integers}
use Rattle.algebra.proofs.Integers.{integers}
use lib.Signed.{lt_z}
use Rattle.std.proofs.lemmas.Int.{ints}
use Rattle.std.proofs.lemmas.Nat.{le-div, div_below}
use Rattle.number_rules.specs.Rounded.{IsRounded, IsDecimal, Keeps, steps_of_one}
use Rattle.number_rules.specs.Value.{is_e, mantissa, exponent, spelled, signed, begins_with_minus, with_sign, above_zero, numerator, denominator}
use Rattle.number_rules.specs.declared.decimal.Decimal.{Decimal}
use Rattle.fold_keys.specs.Spec.{size, steps, last_version, is_above_spec}

neg_product : (x y : ℤ) → neg_ℤ x *ℤ y ≡ neg_ℤ (x *ℤ y)
neg_product x y =
    ring integers (x ∷ y ∷ []) (search reads_integers depth 20) (search reads_integers depth 20) tt

twice_over : (q d : ℕ) → q * (2 * d) ≡ 2 * (q * d)
twice_over q d = sym (mul_assoc q 2 d) ∙ ap (λ n. n * d) (mul_comm q 2) ∙ mul_assoc 2 q d

pub steps_are : (n d : ℕ) (r : ℤ) → 0 < d → IsRounded (pos n) d r → r ≡ pos ((2 * n + d) / (2 * d))
steps_are n d (pos q) h is =
    let two : 0 < 2 * d = omega (arith, h) in
    let low : q * (2 * d) ≤ 2 * n + d = omega (arith, ints, is.0, twice_over q d) in
    let high : 2 * n + d < (q + 1) * (2 * d) =
    omega (arith, ints, is.1, twice_over (q + 1) d, twice_over q d) in
    let least = le-div q (2 * n + d) (2 * d) two low in
    let most = div_below (2 * n + d) (2 * d) (q + 1) two high in
    ap pos (omega (arith, least, most))
steps_are n d (negsuc q) h is =
    let product : negsuc q *ℤ pos d ≡ neg_ℤ (pos (suc q * d)) = neg_product (pos (suc q)) (pos d) in
    let high = subst (λ y. (pos 2 *ℤ pos n +ℤ pos d) <ℤ (pos 2 *ℤ y +ℤ pos (2 * d))) product is.1 in
    let most : d ≤ suc q * d = omega (arith, add-mul q 1 d, one-mul d) in
    absurd (omega (arith, ints, high, most, h))

minus_first : (text : List ℕ) → begins_with_minus (mantissa text) ≡ begins_with_minus text
minus_first [] = refl
minus_first (b ∷ text) = at (is_e b) refl
  where
    at : (e : Bool) → is_e b ≡ e
        → begins_with_minus (mantissa (b ∷ text)) ≡ begins_with_minus (b ∷ text)
    at true e = ap (λ t. begins_with_minus (if t then [] else (b ∷ mantissa text))) e ∙ no_minus
      where
        no_minus : false ≡ (b == 45)
        no_minus = grind (arith, nat_tests)
    at false e = ap (λ t. begins_with_minus (if t then [] else (b ∷ mantissa text))) e

pub below_zero_is_read : (text : List ℕ) → begins_with_minus text ≡ true
    → false ≡ is_above_spec text
unfolding is_above_spec
below_zero_is_read text e =
    sym (ap (λ b. not b && nat_lt last_version (steps text)) (minus_first text ∙ e))

value_is : (text : List ℕ) → begins_with_minus text ≡ false
    → pos steps_of_one *ℤ numerator text ≡ pos (steps_of_one * size text)
value_is text e =
    ap (λ b. pos steps_of_one *ℤ
    (with_sign b (spelled (mantissa text)) *ℤ pos (10 ^ above_zero (signed (exponent text)))))
    (minus_first text ∙ e)

steps_by : (text : List ℕ) (r : ℤ) → begins_with_minus text ≡ false
    → IsRounded (pos steps_of_one *ℤ numerator text) (denominator text) r → r ≡ pos (steps text)
steps_by text r e is =
    steps_are (steps_of_one * size text) (denominator text) r (one-le-pow _ 10 (omega arith))
    (subst (λ n. IsRounded n (denominator text) r) (value_is text e) is)

told : (text : List ℕ) (b : Bool) → begins_with_minus text ≡ false
    → nat_lt last_version (steps text) ≡ b → b ≡ is_above_spec text
unfolding is_above_spec
told text b e t =
    sym (ap (λ m. not m && nat_lt last_version (steps text)) (minus_first text ∙ e) ∙ t)

pub far_is_above : (text : List ℕ) (x : Decimal) → begins_with_minus text ≡ false
    → IsDecimal text x → x.far ≡ true → true ≡ is_above_spec text
far_is_above text x e is far =
    let r = steps_by text is.0 e is.1 in
    let kept = subst (λ f. Keeps (pos steps_of_one *ℤ numerator text)
    (denominator text) is.0 f x.near x.exact) far is.2 in
    let large : 2 ^ 62 * steps_of_one < steps text =
    subst (λ z. 2 ^ 62 * steps_of_one < unsigned_abs z) r kept.0 in
    told text true e (lt-ltb last_version (steps text) (omega (arith, large)))

pub near_is_above : (text : List ℕ) (x : Decimal) → begins_with_minus text ≡ false
    → IsDecimal text x → x.far ≡ false → lt_z (pos last_version) x.near ≡ is_above_spec text
near_is_above text x e is far =
    let r = steps_by text is.0 e is.1 in
    let kept = subst (λ f. Keeps (pos steps_of_one *ℤ numerator text)
    (denominator text) is.0 f x.near x.exact) far is.2 in
    told text (lt_z (pos last_version) x.near) e (sym (ap (lt_z (pos last_version)) (kept.1 ∙ r)))
