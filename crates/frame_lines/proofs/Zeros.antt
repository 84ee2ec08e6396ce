-- zeros before the exponent
use Rattle.std.proofs.Common.{◌≡◌, ℕ, zero, suc, ℤ, pos, ◌+◌, ◌-◌, ◌*◌, ◌^◌, ◌<◌, ◌≤◌, ◌*ℤ◌, pow-suc, ◌==◌, List, [], ◌∷◌, drop, length, get_or, refl, sym, ◌∙◌, ap, subst, Bool, true, false, arith}
use Rattle.std.specs.Prelude.{if◌then◌else◌, unsigned_abs}
use Rattle.std.specs.Ordering.{int_eq}
use Rattle.std.specs.Char.{is_ascii_digit}
use Rattle.std.proofs.lemmas.Bool.{ne_eqb}
use Rattle.std.proofs.lemmas.Bool.Decides.{nat_tests, Decides-int_eq}
use Rattle.std.proofs.Math.Nat.{mul-le-mul_left}
use Rattle.std.proofs.lemmas.Int.{ints, unsigned_abs-mul}
use Rattle.std.proofs.lemmas.List.{drop_more, drop_all}
use Rattle.number_rules.specs.Value.{is_e, mantissa, exponent, with_digit, with_digits, spelled, begins_with_minus, with_sign, above_zero, signed}
use Rattle.frame_lines.specs.Zero.{is_zero}

-- no digit before the exponent is another than 0
abbrev no_digits : List ℕ → Bool
no_digits text = spelled (mantissa text) == 0

digit_grows : (n b : ℕ) → n ≤ with_digit n b
digit_grows n b = at (is_ascii_digit b)
  where
    at : (d : Bool) → n ≤ (if d then 10 * n + (b - 48) else n)
    at true = omega arith
    at false = omega arith

grows : (n : ℕ) (text : List ℕ) → n ≤ with_digits n text
grows n [] = omega arith
grows n (b ∷ text) =
    let here = digit_grows n b in
    let rest = grows (with_digit n b) text in omega (arith, here, rest)

at_e : (b : ℕ) (rest : List ℕ) → is_e b ≡ true → no_digits (b ∷ rest) ≡ true
at_e b rest e = ap (λ t. spelled (if t then [] else (b ∷ mantissa rest)) == 0) e

at_zero : (b : ℕ) (rest : List ℕ) → is_e b ≡ false → with_digit 0 b ≡ 0
    → no_digits (b ∷ rest) ≡ no_digits rest
at_zero b rest e nothing =
    ap (λ t. spelled (if t then [] else (b ∷ mantissa rest)) == 0) e
    ∙ ap (λ n. with_digits n (mantissa rest) == 0) nothing

at_digit : (b : ℕ) (rest : List ℕ) → is_e b ≡ false → 0 < with_digit 0 b
    → no_digits (b ∷ rest) ≡ false
at_digit b rest e some =
    ap (λ t. spelled (if t then [] else (b ∷ mantissa rest)) == 0) e
    ∙ ne_eqb (with_digits (with_digit 0 b) (mantissa rest)) 0
    (λ is. let more = grows (with_digit 0 b) (mantissa rest) in omega (arith, is, more, some))

-- ---- with a sign and a power of ten

power_above : (k : ℕ) → 1 ≤ 10 ^ k
power_above zero = omega arith
power_above (suc k) = let before = power_above k in rw pow-suc (omega (arith, before))

size_signed : (minus : Bool) (n : ℕ) → unsigned_abs (with_sign minus n) ≡ n
size_signed true zero = refl
size_signed true (suc n) = refl
size_signed false n = refl

no_product : (n p : ℕ) → 1 ≤ p → suc n * p ≡ 0 → ⊥
no_product n zero some e = omega (arith, some)
no_product n (suc p) some e = omega (arith, e, mul-le-mul_left {m = 1} {n = suc p} (suc n) (omega arith))

signed_zero : (minus : Bool) (n p : ℕ) → 1 ≤ p → int_eq (with_sign minus n *ℤ pos p) (pos 0) ≡ (n == 0)
signed_zero true zero p some = (Decides-int_eq (with_sign true 0 *ℤ pos p) (pos 0)).1 (omega (arith, ints))
signed_zero false zero p some = (Decides-int_eq (with_sign false 0 *ℤ pos p) (pos 0)).1 (omega (arith, ints))
signed_zero minus (suc n) p some =
    let not_zero : (suc n == 0) ≡ false = grind (arith, nat_tests) in
    at (int_eq product (pos 0)) refl ∙ sym not_zero
  where
    product : ℤ
    product = with_sign minus (suc n) *ℤ pos p

    at : (b : Bool) → int_eq product (pos 0) ≡ b → int_eq product (pos 0) ≡ false
    at false e = e
    at true e =
        let size : unsigned_abs product ≡ unsigned_abs (with_sign minus (suc n)) * p =
        unsigned_abs-mul (with_sign minus (suc n)) (pos p) in
        let none : product ≡ pos 0 = (Decides-int_eq product (pos 0)).0 e in
        absurd (no_product n p some (ap (λ m. m * p) (sym (size_signed minus (suc n))) ∙ sym size ∙ ap unsigned_abs none))

no_digits_is : (text : List ℕ) → no_digits text ≡ is_zero text
no_digits_is text =
    sym (signed_zero (begins_with_minus (mantissa text)) (spelled (mantissa text))
    (10 ^ above_zero (signed (exponent text))) (power_above _))

-- ---- along a text

module _ (text : List ℕ) where
  -- what was passed is zeros, and no exponent has begun
  abbrev pub IsPassed : ℕ → Type 0
  IsPassed i = no_digits (drop i text) ≡ is_zero text

  pub none_passed : IsPassed 0
  none_passed = no_digits_is text

  split : (i : ℕ) → i < length text → drop i text ≡ get_or text i 0 ∷ drop (i + 1) text
  split i within = drop_more text i 0 within

  pub exponent_here : (i : ℕ) → IsPassed i → i < length text → is_e (get_or text i 0) ≡ true
      → true ≡ is_zero text
  exponent_here i passed within e =
      sym (at_e (get_or text i 0) (drop (i + 1) text) e) ∙ sym (ap no_digits (split i within)) ∙ passed

  pub digit_here : (i : ℕ) → IsPassed i → i < length text → 49 ≤ get_or text i 0
      → get_or text i 0 ≤ 57 → false ≡ is_zero text
  digit_here i passed within low high =
      let b = get_or text i 0 in
      let no_e : is_e b ≡ false = grind (arith, nat_tests) in
      let digit : is_ascii_digit b ≡ true = grind (arith, nat_tests) in
      let some : 0 < with_digit 0 b =
      subst (λ n. 0 < n) (sym (ap (λ d. if d then 10 * 0 + (b - 48) else 0) digit)) (omega (arith, low)) in
      sym (at_digit b (drop (i + 1) text) no_e some) ∙ sym (ap no_digits (split i within)) ∙ passed

  pub zero_here : (i : ℕ) → IsPassed i → i < length text → is_e (get_or text i 0) ≡ false
      → ((49 ≤ get_or text i 0) → (get_or text i 0 ≤ 57) → ⊥) → IsPassed (i + 1)
  zero_here i passed within no_e other =
      let b = get_or text i 0 in
      sym (at_zero b (drop (i + 1) text) no_e (nothing (is_ascii_digit b) refl)) ∙ sym (ap no_digits (split i within)) ∙ passed
    where
      nothing : (d : Bool) → is_ascii_digit (get_or text i 0) ≡ d
          → (if d then 10 * 0 + (get_or text i 0 - 48) else 0) ≡ 0
      nothing false e = refl
      nothing true e = grind (arith, nat_tests)

  pub all_passed : (i : ℕ) → IsPassed i → length text ≤ i → true ≡ is_zero text
  all_passed i passed over = sym (ap no_digits (drop_all i text over)) ∙ passed
