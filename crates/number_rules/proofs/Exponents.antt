-- Exponents that are kept up to a cap: past it a value is 0 or far upwards, and rounded to 0 downwards.
use Rattle.std.proofs.Common.{◌≡◌, ℕ, ℤ, pos, negsuc, zero, suc, ◌+◌, ◌-◌, ◌*◌, ◌^◌, ◌<◌, ◌≤◌, ◌+ℤ◌, ◌-ℤ◌, ◌*ℤ◌, ◌<ℤ◌, refl, sym, ◌∙◌, ap, subst, arith, Bool, true, false, List, [], ◌∷◌, IsTrue, inl, inr, one-mul, zero-mul, mul-one, mul_assoc, mul-lt-mul_of_pos_right, le_trans, lit<, lit≤, length, ◌==◌, le_refl, suc-mul}
use Rattle.std.proofs.lemmas.Int.{ints}
use Rattle.std.proofs.lemmas.Bool.{cases_lt}
use Rattle.std.proofs.lemmas.Nat.{pow-add}
use Rattle.std.proofs.Math.Nat.{pow-le-pow_right, mul-le-mul_right}
use Rattle.std.specs.Prelude.{min, neg_ℤ, unsigned_abs, IsFalse, ◌↔◌, if◌then◌else◌}
use Rattle.algebra.proofs.Integers.{integers}
use Rattle.algebra.proofs.Solvers.{ring, reads_integers}
use Rattle.number_rules.specs.Value.{with_sign, with_digit, with_digits, spelled, count_digits, above_zero, below_zero}
use Rattle.number_rules.specs.Rounded.{IsRounded, Keeps, IsSteps, IsReadable}
use Rattle.number_rules.specs.declared.decimal.Decimal.{Decimal}
use Rattle.std.proofs.lemmas.Bool.Decides.{nat_tests}
use Rattle.std.specs.Char.{is_ascii_digit}
use Rattle.number_rules.specs.Value.{mantissa, exponent, begins_with_minus, signed, places}
use Rattle.number_rules.specs.Rounded.{IsDecimal}
use Rattle.number_rules.proofs.Rounding.{signed_product}
use Rattle.number_rules.proofs.Steps.{limit, size_of_sign}
use Rattle.number_rules.proofs.Places.{decimal_of_text}

-- ---- one rounded number

less_by : (r s : ℤ) → r <ℤ s → (k : ℕ) × (s ≡ r +ℤ pos (suc k))
less_by r s h = (unsigned_abs (s -ℤ r) - 1, omega (arith, ints))

further : (r : ℤ) (k d : ℕ) → (r +ℤ pos (suc k)) *ℤ pos d ≡ r *ℤ pos d +ℤ (pos d +ℤ pos (k * d))
further r k d = ap (λ z. (r +ℤ z) *ℤ pos d) (one_more k) ∙ spread r (pos k) (pos d)
  where
    one_more : (k : ℕ) → pos (suc k) ≡ pos 1 +ℤ pos k
    one_more k = omega (arith, ints)

    spread : (r k d : ℤ) → (r +ℤ (pos 1 +ℤ k)) *ℤ d ≡ r *ℤ d +ℤ (d +ℤ k *ℤ d)
    spread r k d = ring integers (r ∷ k ∷ d ∷ []) (search reads_integers depth 20) (search reads_integers depth 20) tt

not_less : (n : ℤ) (d : ℕ) (r s : ℤ) → IsRounded n d r → IsRounded n d s → ¬ (r <ℤ s)
not_less n d r s h j less =
    let k = less_by r s less in
    let product : s *ℤ pos d ≡ r *ℤ pos d +ℤ (pos d +ℤ pos (k.0 * d)) = ap (λ z. z *ℤ pos d) k.1 ∙ further r k.0 d in
    omega (arith, ints, product, h.1, j.0)

pub rounded_once : (n : ℤ) (d : ℕ) (r s : ℤ) → IsRounded n d r → IsRounded n d s → r ≡ s
rounded_once n d r s h j = between r s (not_less n d r s h j) (not_less n d s r j h)
  where
    between : (r s : ℤ) → ¬ (r <ℤ s) → ¬ (s <ℤ r) → r ≡ s
    between r s up down = grind (arith, ints)

-- ---- what is kept

past : (n : ℤ) (d : ℕ) (r : ℤ) (far : Bool) (near : ℤ) (exact : Bool) → Keeps n d r far near exact → limit < unsigned_abs r
    → (far ≡ true) × (near ≡ pos 0) × IsFalse exact
past n d r true near exact k h = (refl, k.1, k.2)
past n d r false near exact k h = absurd (omega (arith, k.0, h))

within : (n : ℤ) (d : ℕ) (r : ℤ) (far : Bool) (near : ℤ) (exact : Bool) → Keeps n d r far near exact → unsigned_abs r ≤ limit
    → (far ≡ false) × (near ≡ r) × (IsTrue exact ↔ (n ≡ r *ℤ pos d))
within n d r true near exact k h = absurd (omega (arith, k.0, h))
within n d r false near exact k h = (refl, k.1, k.2)

readable : (n : ℤ) (d : ℕ) (r : ℤ) (far : Bool) (near : ℤ) (exact : Bool) → Keeps n d r far near exact → unsigned_abs near ≤ limit
readable n d r true near exact k = subst (λ z. unsigned_abs z ≤ limit) (sym k.1) (lit≤ tt)
readable n d r false near exact k = subst (λ z. unsigned_abs z ≤ limit) (sym k.1) k.0

pub is_readable : (n : ℤ) (d : ℕ) (x : Decimal) → IsSteps n d x → IsReadable x
is_readable n d x (r, h, k) = readable n d r x.far x.near x.exact k

no_times : (d : ℕ) → pos 0 *ℤ pos d ≡ pos 0
no_times d = ap pos (zero-mul d)

rounds_to_zero : (n : ℤ) (d : ℕ) → 2 * unsigned_abs n < d → IsRounded n d (pos 0)
rounds_to_zero n d h = (omega (arith, ints, no_times d), omega (arith, ints, no_times d))

-- two fractions that are rounded to 0 are one decimal where both are 0 or none
zero_steps : (n : ℤ) (d : ℕ) (m : ℤ) (e : ℕ) (x : Decimal) → 2 * unsigned_abs n < d → 2 * unsigned_abs m < e → (n ≡ pos 0) ↔ (m ≡ pos 0) → IsSteps n d x → IsSteps m e x
zero_steps n d m e x n_small m_small same (r, h, k) =
    let r_is : r ≡ pos 0 = rounded_once n d r (pos 0) h (rounds_to_zero n d n_small) in
    let kept = within n d r x.far x.near x.exact k (subst (λ z. unsigned_abs z ≤ limit) (sym r_is) (lit≤ tt)) in (
      pos 0,
      rounds_to_zero m e m_small,
      subst (λ b. Keeps m e (pos 0) b x.near x.exact) (sym kept.0) (
        lit≤ tt,
        kept.1 ∙ r_is,
        (
          (λ t. same.0 (kept.2.0 t ∙ ap (λ z. z *ℤ pos d) r_is ∙ no_times d) ∙ sym (no_times e)),
          (λ z. kept.2.1 (same.1 (z ∙ no_times e) ∙ sym (no_times d) ∙ ap (λ z. z *ℤ pos d) (sym r_is))),
        ),
      ),
    )

-- two whole numbers past the limit are one decimal
far_steps : (negative : Bool) (n s f : ℕ) (x : Decimal) → 0 < f → limit < n → limit < s → IsSteps (with_sign negative n) 1 x → IsSteps (with_sign negative (s * f)) (1 * f) x
far_steps negative n s f x some n_past s_past (r, h, k) =
    let r_is : r ≡ with_sign negative n = whole (with_sign negative n) r h in
    let kept = past (with_sign negative n) 1 r x.far x.near x.exact k (subst (λ z. limit < unsigned_abs z) (sym r_is) (subst (λ m. limit < m) (sym (size_of_sign negative n)) n_past)) in
    let product : with_sign negative s *ℤ pos (1 * f) ≡ with_sign negative (s * f) = ap (λ d. with_sign negative s *ℤ pos d) (one-mul f) ∙ signed_product negative s f in (
      with_sign negative s,
      (omega (arith, ints, product), omega (arith, ints, product, some)),
      subst (λ b. Keeps (with_sign negative (s * f)) (1 * f) (with_sign negative s) b x.near x.exact) (sym kept.0)
          (subst (λ m. limit < m) (sym (size_of_sign negative s)) s_past, kept.1, kept.2),
    )
  where
    whole : (z r : ℤ) → IsRounded z 1 r → r ≡ z
    whole z r h = omega (arith, ints, h.0, h.1)

-- ---- how many digits there are, and how large the number that they spell

either : (t : Bool) (m n k : ℕ) → m ≤ k → n ≤ k → (if t then m else n) ≤ k
either true m n k h j = h
either false m n k h j = j

pub count_within : (text : List ℕ) → count_digits text ≤ length text
count_within [] = omega arith
count_within (b ∷ text) =
    let rest = count_within text in either (is_ascii_digit b) (1 + count_digits text) (count_digits text) (suc (length text)) (omega (arith, rest)) (omega (arith, rest))

pub places_within : (text : List ℕ) → places text ≤ length text
places_within [] = omega arith
places_within (b ∷ text) =
    let count = count_within text in
    let rest = places_within text in
    either (b == 46) (count_digits text) (places text) (suc (length text)) (omega (arith, count)) (omega (arith, rest))

digit_below_ten : (b : ℕ) → is_ascii_digit b ≡ true → b - 48 ≤ 9
digit_below_ten b h = grind (arith, nat_tests)

grown : (t : Bool) (n b k : ℕ) → (t ≡ true → b - 48 ≤ 9) → ((if t then 10 * n + (b - 48) else n) + 1) * 10 ^ k ≤ (n + 1) * 10 ^ (if t then 1 + k else k)
grown true n b k h =
    let more : 10 ^ (1 + k) ≡ 10 * 10 ^ k = pow-add 10 1 k in
    let most : 10 * n + (b - 48) + 1 ≤ (n + 1) * 10 = omega (arith, h refl) in
    rw more (subst (λ m. (10 * n + (b - 48) + 1) * 10 ^ k ≤ m) (mul_assoc (n + 1) 10 (10 ^ k)) (mul-le-mul_right (10 ^ k) most))
grown false n b k h = le_refl ((n + 1) * 10 ^ k)

digits_below : (n : ℕ) (text : List ℕ) → with_digits n text < (n + 1) * 10 ^ count_digits text
digits_below n [] = omega arith
digits_below n (b ∷ text) =
    let rest = digits_below (with_digit n b) text in
    let more = grown (is_ascii_digit b) n b (count_digits text) (digit_below_ten b) in
    omega (arith, rest, more)

pub spelled_below : (text : List ℕ) → spelled text < 10 ^ count_digits text
spelled_below text = let most = digits_below 0 text in subst (λ n. spelled text < n) (one-mul (10 ^ count_digits text)) most

-- ---- past the cap

abbrev most : ℕ
most = 1000000000

sign_of_zero : (negative : Bool) (n : ℕ) → n ≡ 0 → with_sign negative n ≡ pos 0
sign_of_zero true n e = ap (λ m. with_sign true m) e
sign_of_zero false n e = ap pos e

zero_of_sign : (negative : Bool) (n : ℕ) → with_sign negative n ≡ pos 0 → n ≡ 0
zero_of_sign negative n e = sym (size_of_sign negative n) ∙ ap unsigned_abs e

no_product : (a b : ℕ) → 0 * a * b ≡ 0
no_product a b = ap (λ m. m * b) (zero-mul a) ∙ zero-mul b

none_below : (z : ℤ) (d : ℕ) → z ≡ pos 0 → 0 < d → 2 * unsigned_abs z < d
none_below z d e h = subst (λ y. 2 * unsigned_abs y < d) (sym e) h

past_limit : (c p : ℕ) → 37 ≤ p → limit < suc c * 10 ^ p
past_limit c p h =
    let power : 10 ^ 37 ≤ 10 ^ p = pow-le-pow_right (omega arith) h in
    let below : limit < 10 ^ 37 = lit< tt in
    let product : suc c * 10 ^ p ≡ c * 10 ^ p + 10 ^ p = suc-mul c (10 ^ p) in
    omega (arith, power, below, product)

doubled_below : (c count b : ℕ) → c < 10 ^ count → 1 + count ≤ b → 2 * c < 10 ^ b
doubled_below c count b h j =
    let more : 10 ^ (1 + count) ≡ 10 * 10 ^ count = pow-add 10 1 count in
    let power : 10 ^ (1 + count) ≤ 10 ^ b = pow-le-pow_right (omega arith) j in
    omega (arith, h, more, power)

-- upwards: from 37 places on
further_up : (negative : Bool) (c p more f : ℕ) (x : Decimal) → 37 ≤ p → 0 < f → IsSteps (with_sign negative (c * 10 ^ p * 1)) 1 x
    → IsSteps (with_sign negative (c * 10 ^ (p + more) * f)) (1 * f) x
further_up negative zero p more f x h some steps =
    let n_is : with_sign negative (0 * 10 ^ p * 1) ≡ pos 0 = sign_of_zero negative (0 * 10 ^ p * 1) (no_product (10 ^ p) 1) in
    let m_is : with_sign negative (0 * 10 ^ (p + more) * f) ≡ pos 0 = sign_of_zero negative (0 * 10 ^ (p + more) * f) (no_product (10 ^ (p + more)) f) in
    zero_steps (with_sign negative (0 * 10 ^ p * 1)) 1 (with_sign negative (0 * 10 ^ (p + more) * f)) (1 * f) x (none_below (with_sign negative (0 * 10 ^ p * 1)) 1 n_is (omega arith))
    (none_below (with_sign negative (0 * 10 ^ (p + more) * f)) (1 * f) m_is (omega (arith, some))) ((λ z. m_is), (λ z. n_is)) steps
further_up negative (suc c) p more f x h some steps =
    let large = past_limit c p h in
    far_steps negative (suc c * 10 ^ p * 1) (suc c * 10 ^ (p + more)) f x some (subst (λ m. limit < m) (sym (mul-one (suc c * 10 ^ p))) large) (past_limit c (p + more) (omega (arith, h))) steps

-- downwards: past the digits
further_down : (negative : Bool) (c b e f : ℕ) (x : Decimal) → 2 * c < 10 ^ b → 2 * c < 10 ^ e → 0 < f → IsSteps (with_sign negative (c * 1 * 1)) (10 ^ b * 1) x
    → IsSteps (with_sign negative (c * 1 * f)) (10 ^ e * f) x
further_down negative c b e f x below_b below_e some steps =
    let times : 2 * c * f < 10 ^ e * f = mul-lt-mul_of_pos_right below_e some in
    zero_steps (with_sign negative (c * 1 * 1)) (10 ^ b * 1) (with_sign negative (c * 1 * f)) (10 ^ e * f) x
    (subst (λ m. 2 * m < 10 ^ b * 1) (sym (size_of_sign negative (c * 1 * 1))) (omega (arith, below_b)))
    (subst (λ m. 2 * m < 10 ^ e * f) (sym (size_of_sign negative (c * 1 * f))) (omega (arith, times))) (
      (λ z. sign_of_zero negative (c * 1 * f) (from_one c f (zero_of_sign negative (c * 1 * 1) z))),
      (λ z. sign_of_zero negative (c * 1 * 1) (to_one c f some (zero_of_sign negative (c * 1 * f) z))),
    )
    steps
  where
    from_one : (c f : ℕ) → c * 1 * 1 ≡ 0 → c * 1 * f ≡ 0
    from_one zero f h = no_product 1 f
    from_one (suc c) f h = absurd (omega (arith, h))

    to_one : (c f : ℕ) → 0 < f → c * 1 * f ≡ 0 → c * 1 * 1 ≡ 0
    to_one zero f some h = no_product 1 1
    to_one (suc c) f some h = absurd (omega (arith, h, some, suc-mul c f))

module _ (text : List ℕ) (x : Decimal) where
  -- the decimal of the digits, with the point at a place
  abbrev At : ℤ → Type 0
  At place =
      (f : ℕ) → 0 < f → IsSteps (with_sign (begins_with_minus (mantissa text)) (spelled (mantissa text) * 10 ^ above_zero place * f)) (10 ^ below_zero place * f) x

  past_cap : (negative : Bool) (place : ℤ) → length (mantissa text) ≤ 16777216 → most < spelled (exponent text)
      → place ≡ (pos 18 +ℤ with_sign negative (min (spelled (exponent text)) most)) -ℤ pos (places (mantissa text)) → At place
      → At ((pos 18 +ℤ with_sign negative (spelled (exponent text))) -ℤ pos (places (mantissa text)))
  past_cap false place small large place_is cut =
      let behind : places (mantissa text) ≤ 16777216 = le_trans (places_within (mantissa text)) small in
      let p : ℕ = 1000000018 - places (mantissa text) in
      let more : ℕ = spelled (exponent text) - most in
      let capped : min (spelled (exponent text)) most ≡ most = omega (arith, large) in
      let here : place ≡ pos p = place_is ∙ ap (λ n. pos (18 + n) -ℤ pos (places (mantissa text))) capped ∙ omega (arith, ints, behind) in
      let there : (pos 18 +ℤ pos (spelled (exponent text))) -ℤ pos (places (mantissa text)) ≡ pos (p + more) = omega (arith, ints, behind, large) in
      subst At (sym there) (λ f some. further_up (begins_with_minus (mantissa text)) (spelled (mantissa text)) p more f x (omega (arith, behind)) some (subst At here cut 1 (omega arith)))
  past_cap true place small large place_is cut =
      let within : count_digits (mantissa text) ≤ 16777216 = le_trans (count_within (mantissa text)) small in
      let before : ℕ = 999999981 + places (mantissa text) in
      let after : ℕ = spelled (exponent text) - 19 + places (mantissa text) in
      let capped : min (spelled (exponent text)) most ≡ most = omega (arith, large) in
      let here : place ≡ negsuc before = place_is ∙ ap (λ n. (pos 18 +ℤ neg_ℤ (pos n)) -ℤ pos (places (mantissa text))) capped ∙ omega (arith, ints) in
      let there : (pos 18 +ℤ neg_ℤ (pos (spelled (exponent text)))) -ℤ pos (places (mantissa text)) ≡ negsuc after = omega (arith, ints, large) in
      let digits = spelled_below (mantissa text) in
      subst At (sym there)
      (λ f some. further_down (begins_with_minus (mantissa text)) (spelled (mantissa text)) (suc before) (suc after) f x (doubled_below (spelled (mantissa text)) (count_digits (mantissa text)) (suc before) digits (omega (arith, within)))
      (doubled_below (spelled (mantissa text)) (count_digits (mantissa text)) (suc after) digits (omega (arith, within, large))) some (subst At here cut 1 (omega arith)))

  decimal_read : (place : ℤ) → length (mantissa text) ≤ 16777216
      → place ≡ (pos 18 +ℤ with_sign (begins_with_minus (exponent text)) (min (spelled (exponent text)) most)) -ℤ pos (places (mantissa text)) → At place → IsDecimal text x
  decimal_read place small place_is cut = elim (cases_lt most (spelled (exponent text))) [
    | inl large ↦
        decimal_of_text text ((pos 18 +ℤ signed (exponent text)) -ℤ pos (places (mantissa text))) x refl (past_cap (begins_with_minus (exponent text)) place small large place_is cut)
    | inr within ↦ decimal_of_text text place x
        (place_is ∙ ap (λ n. (pos 18 +ℤ with_sign (begins_with_minus (exponent text)) n) -ℤ pos (places (mantissa text))) (least (spelled (exponent text)) most within)) cut
  ]
    where
      least : (n m : ℕ) → n ≤ m → min n m ≡ n
      least n m h = omega (arith, h)

-- the same of parts that the code found
pub decimal_of_parts : (text bytes m e : List ℕ) (x : Decimal) (before : ℤ) → bytes ≡ text → mantissa bytes ≡ m → exponent bytes ≡ e → length m ≤ 16777216
    → before -ℤ pos (count_digits m) ≡ (pos 18 +ℤ with_sign (begins_with_minus e) (min (spelled e) most)) -ℤ pos (places m)
    → ((f : ℕ) → 0 < f → IsSteps (with_sign (begins_with_minus m) (spelled m * 10 ^ above_zero (before -ℤ pos (count_digits m)) * f)) (10 ^ below_zero (before -ℤ pos (count_digits m)) * f) x)
    → IsDecimal text x
decimal_of_parts text bytes m e x before same front behind small place cut =
    let mantissa_is : mantissa text ≡ m = sym (ap mantissa same) ∙ front in
    let exponent_is : exponent text ≡ e = sym (ap exponent same) ∙ behind in
    decimal_read text x (before -ℤ pos (count_digits m)) (rw mantissa_is small) (rw (mantissa_is, exponent_is) place) (rw mantissa_is cut)
