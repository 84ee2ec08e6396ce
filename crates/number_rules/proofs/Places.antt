-- The place of the point, and the value of a text in steps.
use Rattle.std.proofs.Common.{◌≡◌, ℕ, ℤ, pos, negsuc, ◌+◌, ◌-◌, ◌*◌, ◌^◌, ◌<◌, ◌+ℤ◌, ◌-ℤ◌, ◌*ℤ◌, sym, ◌∙◌, ap, subst, arith, Bool, List, inl, inr, mul_assoc, mul_comm}
use Rattle.std.specs.Prelude.{min}
use Rattle.std.proofs.lemmas.Int.{ints}
use Rattle.std.proofs.lemmas.Bool.{cases_lt}
use Rattle.std.proofs.lemmas.Nat.{pow-add}
use Rattle.std.proofs.Math.Nat.{one-le-pow}
use Rattle.std.proofs.Math.IntN.{*ℤ_comm}
use Rattle.number_rules.specs.Value.{above_zero, below_zero, mantissa, exponent, spelled, signed, begins_with_minus, places, numerator}
use Rattle.number_rules.specs.Rounded.{steps_of_one}
use Rattle.number_rules.specs.Rounded.{IsSteps, IsDecimal}
use Rattle.number_rules.specs.Value.{with_sign}
use Rattle.number_rules.specs.declared.decimal.Decimal.{Decimal}
use Rattle.number_rules.proofs.Rounding.{signed_product}

pub split : (a b : ℕ) → (above_zero (pos a -ℤ pos b) + min a b ≡ a) × (below_zero (pos a -ℤ pos b) + min a b ≡ b)
split a b = elim (cases_lt a b) [
  | inl less ↦
      let e : pos a -ℤ pos b ≡ negsuc (b - a - 1) = omega (arith, ints, less) in
      (ap (λ z. above_zero z + min a b) e ∙ omega (arith, less), ap (λ z. below_zero z + min a b) e ∙ omega (arith, less))
  | inr more ↦
      let e : pos a -ℤ pos b ≡ pos (a - b) = omega (arith, ints, more) in
      (ap (λ z. above_zero z + min a b) e ∙ omega (arith, more), ap (λ z. below_zero z + min a b) e ∙ omega (arith, more))
]

two_sides : (e : ℤ) (places : ℕ) → (pos 18 +ℤ e) -ℤ pos places ≡ pos (18 + above_zero e) -ℤ pos (below_zero e + places)
two_sides (pos a) places = omega (arith, ints)
two_sides (negsuc a) places = omega (arith, ints)

in_steps : (negative : Bool) (c up : ℕ) → pos steps_of_one *ℤ (with_sign negative c *ℤ pos (10 ^ up)) ≡ with_sign negative (c * 10 ^ (18 + up))
in_steps negative c up =
    ap (λ z. pos steps_of_one *ℤ z) (signed_product negative c (10 ^ up)) ∙ swap (with_sign negative (c * 10 ^ up)) ∙ signed_product negative (c * 10 ^ up) steps_of_one
    ∙ ap (with_sign negative) (mul_assoc c (10 ^ up) steps_of_one ∙ ap (λ m. c * m) (mul_comm (10 ^ up) steps_of_one ∙ sym (pow-add 10 18 up)))
  where
    swap : (z : ℤ) → pos steps_of_one *ℤ z ≡ z *ℤ pos steps_of_one
    swap z = *ℤ_comm (pos steps_of_one) z

pub decimal_of_text : (text : List ℕ) (place : ℤ) (x : Decimal) → place ≡ (pos 18 +ℤ signed (exponent text)) -ℤ pos (places (mantissa text))
    → ((f : ℕ) → 0 < f → IsSteps (with_sign (begins_with_minus (mantissa text)) (spelled (mantissa text) * 10 ^ above_zero place * f)) (10 ^ below_zero place * f) x) → IsDecimal text x
decimal_of_text text place x e steps =
    let power : ℤ = signed (exponent text) in
    let a : ℕ = 18 + above_zero power in
    let b : ℕ = below_zero power + places (mantissa text) in
    let c : ℕ = spelled (mantissa text) in
    let there : place ≡ pos a -ℤ pos b = e ∙ two_sides power (places (mantissa text)) in
    let up : above_zero place + min a b ≡ a = ap (λ z. above_zero z + min a b) there ∙ (split a b).0 in
    let down : below_zero place + min a b ≡ b = ap (λ z. below_zero z + min a b) there ∙ (split a b).1 in
    let numerators : c * 10 ^ above_zero place * 10 ^ min a b ≡ c * 10 ^ a = mul_assoc c (10 ^ above_zero place) (10 ^ min a b) ∙ ap (λ m. c * m) (sym (pow-add 10 (above_zero place) (min a b)) ∙ ap (λ k. 10 ^ k) up) in
    let denominators : 10 ^ below_zero place * 10 ^ min a b ≡ 10 ^ b = sym (pow-add 10 (below_zero place) (min a b)) ∙ ap (λ k. 10 ^ k) down in
    let value : with_sign (begins_with_minus (mantissa text)) (c * 10 ^ a) ≡ pos steps_of_one *ℤ numerator text =
    sym (in_steps (begins_with_minus (mantissa text)) c (above_zero power)) in
    subst (λ n. IsSteps n (10 ^ b) x) value
    (subst (λ d. IsSteps (with_sign (begins_with_minus (mantissa text)) (c * 10 ^ a)) d x) denominators
    (subst (λ n. IsSteps (with_sign (begins_with_minus (mantissa text)) n) (10 ^ below_zero place * 10 ^ min a b) x) numerators (steps (10 ^ min a b) (one-le-pow (min a b) 10 (omega arith)))))
