-- Texts whose value is a whole number of billionths.
use Rattle.std.proofs.Common.{◌≡◌, ℕ, ℤ, pos, negsuc, zero, suc, ◌+◌, ◌-◌, ◌*◌, ◌^◌, ◌<◌, ◌≤◌, ◌+ℤ◌, ◌-ℤ◌, ◌*ℤ◌, refl, sym, ◌∙◌, ap, subst, arith, Bool, true, false, IsTrue, List, inl, inr, length, zero-mul, suc-mul, mul_assoc, mul_comm, le_trans}
use Rattle.std.proofs.lemmas.Bool.{cases_lt}
use Rattle.std.proofs.lemmas.Int.{ints}
use Rattle.std.proofs.lemmas.Nat.{pow-add}
use Rattle.std.proofs.Math.Nat.{one-le-pow, pow-le-pow_right, mul-le-mul_right, le-mul_of_pos_right}
use Rattle.std.specs.Prelude.{min, neg_ℤ, unsigned_abs, ◌↔◌}
use Rattle.number_rules.specs.Billionths.{HasBillionths, IsSize}
use Rattle.number_rules.specs.Cut.{Shows, IsTail, cap, is_exact}
use Rattle.number_rules.specs.Nine.{billion}
use Rattle.number_rules.specs.Value.{above_zero, below_zero, begins_with_minus, count_digits, exponent, mantissa, numerator, places, signed, spelled, with_sign}
use Rattle.number_rules.specs.declared.cut.Cut.{Cut}
use Rattle.number_rules.specs.declared.cut.Tail.{Tail}
use Rattle.number_rules.specs.declared.cut.Tail.TheVariants.{Nothing, Zero, BelowHalf, Half, AboveHalf}
use Rattle.number_rules.proofs.Exponents.{count_within, places_within, spelled_below}
use Rattle.number_rules.proofs.Places.{split}
use Rattle.number_rules.proofs.Rounding.{signed_product}
use Rattle.number_rules.proofs.Steps.{finished, kept_zeros}

-- ---- what is cut off

-- nothing but zeros is cut off where nothing is left
none_left : (rest d : ℕ) (tail : Tail) → IsTail rest d tail → (IsTrue (is_exact tail) ↔ (rest ≡ 0)) × (rest < d)
none_left rest d Nothing t = (((λ h. t.0), (λ h. refl)), omega (arith, t.0, t.1))
none_left rest d Zero t = (((λ h. t.3), (λ h. refl)), omega (arith, t.1, t.2, t.3))
none_left rest d BelowHalf t = (((λ h. cc), (λ h. absurd (omega (arith, h, t.2)))), omega (arith, t.1, t.3))
none_left rest d Half t = (((λ h. cc), (λ h. absurd (omega (arith, h, t.2, t.3)))), omega (arith, t.1, t.2, t.3))
none_left rest d AboveHalf t = (((λ h. cc), (λ h. absurd (omega (arith, h, t.2)))), t.3)

-- one way to divide
same_whole : (a b d rest : ℕ) → a * d + rest ≡ b * d → rest < d → (a ≡ b) × (rest ≡ 0)
same_whole a b d rest e less = elim (cases_lt a b) [
  | inl below ↦
      let more : suc a * d ≤ b * d = times (suc a) b d below in
      absurd (omega (arith, e, less, more, suc-mul a d))
  | inr not_below ↦
      let least : b * d ≤ a * d = times b a d not_below in
      let none : rest ≡ 0 = omega (arith, e, least) in (
        elim (cases_lt b a) [
          | inl above ↦
              let more : suc b * d ≤ a * d = times (suc b) a d above in
              absurd (omega (arith, e, less, more, suc-mul b d))
          | inr not_above ↦ omega (arith, not_below, not_above)
        ],
        none,
      )
]
  where
    times : (m n d : ℕ) → m ≤ n → m * d ≤ n * d
    times m n d h = mul-le-mul_right d h

pub is_size : (n count : ℕ) (before : ℤ) (cut : Cut) (steps size : ℕ) → size < cap → Shows n count before cut
    → steps ≡ min (cut.whole * 10 ^ min cut.left 38) cap
    → (IsTrue (is_exact cut.tail) × (steps ≡ size)) ↔ IsSize n (before -ℤ pos count) size
is_size n count before cut steps size small shows steps_are =
    let c = shows.whole in
    let place : ℤ = before -ℤ pos count in
    let d : ℕ = 10 ^ below_zero place in
    let whole : ℕ = c.0 * 10 ^ above_zero place in
    let tail = none_left c.1 d cut.tail c.3 in
    let sum : n * 10 ^ above_zero place ≡ whole * d + c.1 = finished n c.0 c.1 place cut.tail c.2 c.3 in
    let kept : steps ≡ min whole cap =
    steps_are ∙ kept_zeros c.0 cut.whole cut.left c.4 ∙ ap (λ l. min (c.0 * 10 ^ l) cap) shows.left in (
      (λ h.
          let same : whole ≡ size = of_kept whole size (sym kept ∙ h.1) small in
          sum ∙ (λ i. same i * d + tail.0.0 h.0 i) ∙ no_more (size * d)),
      (λ h.
          let one = same_whole whole size d c.1 (sym sum ∙ h) tail.1 in
          (tail.0.1 one.1, kept ∙ ap (λ m. min m cap) one.0 ∙ least size small)),
    )
  where
    of_kept : (m n : ℕ) → min m cap ≡ n → n < cap → m ≡ n
    of_kept m n e h = grind arith

    no_more : (m : ℕ) → m + 0 ≡ m
    no_more m = omega arith

    least : (m : ℕ) → m < cap → min m cap ≡ m
    least m h = grind arith

-- ---- far places

no_zero_size : (n p : ℕ) → 0 < n → 0 < p → 0 < n * p
no_zero_size n p h j = omega (arith, h, le-mul_of_pos_right {m = p} n j)

module _ (n size : ℕ) (small : size < cap) where
  -- far upwards and far downwards no number but zero is this size
  far_up : (p : ℕ) → 38 ≤ p → IsSize n (pos p) size ↔ ((n ≡ 0) × (size ≡ 0))
  far_up p far = (
    (λ h. elim (cases_lt 0 n) [
      | inl some ↦
          let power : cap ≤ 10 ^ p = pow-le-pow_right {n = 10} (omega arith) {i = 38} {j = p} far in
          let least : 10 ^ p ≤ n * 10 ^ p = subst (λ m. 10 ^ p ≤ m) (mul_comm (10 ^ p) n) (le-mul_of_pos_right {m = n} (10 ^ p) some) in
          absurd (omega (arith, h, small, power, least))
      | inr none ↦
          let nothing : n ≡ 0 = omega (arith, none) in
          let product : n * 10 ^ p ≡ 0 = ap (λ m. m * 10 ^ p) nothing ∙ zero-mul (10 ^ p) in
          (nothing, omega (arith, h, product))
    ]),
    (λ h. ap (λ m. m * 10 ^ p) h.0 ∙ zero-mul (10 ^ p) ∙ sym (ap (λ m. m * 1) h.1)),
  )

  far_down : (b : ℕ) → n < 10 ^ suc b → IsSize n (negsuc b) size ↔ ((n ≡ 0) × (size ≡ 0))
  far_down b less = (
    (λ h. elim (cases_lt 0 size) [
      | inl some ↦
          let least : 10 ^ suc b ≤ size * 10 ^ suc b = subst (λ m. 10 ^ suc b ≤ m) (mul_comm (10 ^ suc b) size) (le-mul_of_pos_right {m = size} (10 ^ suc b) some) in
          absurd (omega (arith, h, less, least))
      | inr none ↦
          let nothing : size ≡ 0 = omega (arith, none) in
          let product : size * 10 ^ suc b ≡ 0 = ap (λ m. m * 10 ^ suc b) nothing ∙ zero-mul (10 ^ suc b) in
          (omega (arith, h, product), nothing)
    ]),
    (λ h. ap (λ m. m * 1) h.0 ∙ sym (ap (λ m. m * 10 ^ suc b) h.1 ∙ zero-mul (10 ^ suc b))),
  )

both : {A B C : Type 0} → A ↔ C → B ↔ C → A ↔ B
both p q = ((λ a. q.1 (p.0 a)), (λ b. p.1 (q.0 b)))

abbrev most : ℕ
most = 1000000000

digits_fit : (n count b : ℕ) → n < 10 ^ count → count ≤ b → n < 10 ^ b
digits_fit n count b less fits =
    let power : 10 ^ count ≤ 10 ^ b = pow-le-pow_right {n = 10} (omega arith) {i = count} {j = b} fits in omega (arith, less, power)

-- an exponent that is kept up to a cap
capped : (m : List ℕ) (e size : ℕ) (negative : Bool) (place : ℤ) → length m ≤ 16777216 → size < cap
    → place ≡ (pos 9 +ℤ with_sign negative (min e most)) -ℤ pos (places m)
    → IsSize (spelled m) place size ↔ IsSize (spelled m) ((pos 9 +ℤ with_sign negative e) -ℤ pos (places m)) size
capped m e size negative place short small place_is = elim (cases_lt most e) [
  | inr within ↦
      let same : place ≡ (pos 9 +ℤ with_sign negative e) -ℤ pos (places m) = place_is ∙ ap (λ n. (pos 9 +ℤ with_sign negative n) -ℤ pos (places m)) (least e within) in
      (subst (λ z. IsSize (spelled m) z size) same, subst (λ z. IsSize (spelled m) z size) (sym same))
  | inl large ↦
      let kept : min e most ≡ most = cut e large in
      by_sign negative large (place_is ∙ ap (λ n. (pos 9 +ℤ with_sign negative n) -ℤ pos (places m)) kept)
]
  where
    least : (n : ℕ) → n ≤ most → min n most ≡ n
    least n h = omega (arith, h)

    cut : (n : ℕ) → most < n → min n most ≡ most
    cut n h = omega (arith, h)

    behind : places m ≤ 16777216
    behind = le_trans (places_within m) short

    digits : count_digits m ≤ 16777216
    digits = le_trans (count_within m) short

    by_sign : (negative : Bool) → most < e → place ≡ (pos 9 +ℤ with_sign negative most) -ℤ pos (places m)
        → IsSize (spelled m) place size ↔ IsSize (spelled m) ((pos 9 +ℤ with_sign negative e) -ℤ pos (places m)) size
    by_sign false large here =
        let p : ℕ = 1000000009 - places m in
        let q : ℕ = 9 + e - places m in
        let at : place ≡ pos p = here ∙ omega (arith, ints, behind) in
        let there : (pos 9 +ℤ pos e) -ℤ pos (places m) ≡ pos q = omega (arith, ints, behind, large) in
        both
        (subst (λ z. IsSize (spelled m) z size ↔ ((spelled m ≡ 0) × (size ≡ 0))) (sym at) (far_up (spelled m) size small p (omega (arith, behind))))
        (subst (λ z. IsSize (spelled m) z size ↔ ((spelled m ≡ 0) × (size ≡ 0))) (sym there) (far_up (spelled m) size small q (omega (arith, behind, large))))
    by_sign true large here =
        let p : ℕ = 999999990 + places m in
        let q : ℕ = e - 10 + places m in
        let at : place ≡ negsuc p = here ∙ omega (arith, ints) in
        let there : (pos 9 +ℤ neg_ℤ (pos e)) -ℤ pos (places m) ≡ negsuc q = omega (arith, ints, large) in
        both
        (subst (λ z. IsSize (spelled m) z size ↔ ((spelled m ≡ 0) × (size ≡ 0))) (sym at)
        (far_down (spelled m) size small p (digits_fit (spelled m) (count_digits m) (suc p) (spelled_below m) (omega (arith, digits)))))
        (subst (λ z. IsSize (spelled m) z size ↔ ((spelled m ≡ 0) × (size ≡ 0))) (sym there)
        (far_down (spelled m) size small q (digits_fit (spelled m) (count_digits m) (suc q) (spelled_below m) (omega (arith, digits, large)))))

-- ---- the two sides of the value

two_sides : (e : ℤ) (places : ℕ) → (pos 9 +ℤ e) -ℤ pos places ≡ pos (9 + above_zero e) -ℤ pos (below_zero e + places)
two_sides (pos a) places = omega (arith, ints)
two_sides (negsuc a) places = omega (arith, ints)

powers : (n size a b : ℕ) → IsSize n (pos a -ℤ pos b) size ↔ (n * 10 ^ a ≡ size * 10 ^ b)
powers n size a b =
    let place : ℤ = pos a -ℤ pos b in
    let f : ℕ = 10 ^ min a b in
    let some : 0 < f = one-le-pow (min a b) 10 (omega arith) in
    let left : n * 10 ^ above_zero place * f ≡ n * 10 ^ a = joined n (above_zero place) (min a b) a (split a b).0 in
    let right : size * 10 ^ below_zero place * f ≡ size * 10 ^ b = joined size (below_zero place) (min a b) b (split a b).1 in (
      (λ h. sym left ∙ ap (λ t. t * f) h ∙ right),
      (λ h. (same_whole (n * 10 ^ above_zero place) (size * 10 ^ below_zero place) f 0 (nothing (n * 10 ^ above_zero place * f) ∙ left ∙ h ∙ sym right) some).0),
    )
  where
    joined : (n i j k : ℕ) → i + j ≡ k → n * 10 ^ i * 10 ^ j ≡ n * 10 ^ k
    joined n i j k e = mul_assoc n (10 ^ i) (10 ^ j) ∙ ap (λ m. n * m) (sym (pow-add 10 i j) ∙ ap (λ k. 10 ^ k) e)

    nothing : (m : ℕ) → m + 0 ≡ m
    nothing m = omega arith

-- a size with its sign
no_multiple : (k d : ℕ) → 0 < d → k * d ≡ 0 → k ≡ 0
no_multiple zero d some e = refl
no_multiple (suc k) d some e = absurd (omega (arith, e, some, suc-mul k d))

by_size : (negative : Bool) (m : ℕ) (count : ℤ) (d : ℕ) → 0 < d → with_sign negative m ≡ count *ℤ pos d
    → (m ≡ unsigned_abs count * d) × (count ≡ with_sign negative (unsigned_abs count))
by_size false m (pos k) d some e = (ap unsigned_abs e, refl)
by_size false m (negsuc k) d some e = absurd (omega (arith, ints, e, signed_product true (suc k) d, suc-mul k d, some))
by_size true m (pos k) d some e =
    let product : pos k *ℤ pos d ≡ pos (k * d) = refl in
    let none : k ≡ 0 = no_multiple k d some (omega (arith, ints, e, product)) in
    (omega (arith, ints, e, product), ap pos none ∙ sym (ap (λ n. neg_ℤ (pos n)) none))
by_size true m (negsuc k) d some e = (omega (arith, ints, e, signed_product true (suc k) d), refl)

of_size : (negative : Bool) (m : ℕ) (count : ℤ) (d : ℕ) → m ≡ unsigned_abs count * d → count ≡ with_sign negative (unsigned_abs count)
    → with_sign negative m ≡ count *ℤ pos d
of_size negative m count d e side =
    ap (with_sign negative) e ∙ sym (signed_product negative (unsigned_abs count) d) ∙ ap (λ z. z *ℤ pos d) (sym side)

numerator_is : (text : List ℕ)
    → numerator text *ℤ pos billion ≡ with_sign (begins_with_minus (mantissa text)) (spelled (mantissa text) * 10 ^ (9 + above_zero (signed (exponent text))))
numerator_is text =
    let negative = begins_with_minus (mantissa text) in
    let n = spelled (mantissa text) in
    let up = above_zero (signed (exponent text)) in
    ap (λ z. z *ℤ pos billion) (signed_product negative n (10 ^ up)) ∙ signed_product negative (n * 10 ^ up) billion
    ∙ ap (with_sign negative) (mul_assoc n (10 ^ up) billion ∙ ap (λ m. n * m) (mul_comm (10 ^ up) billion ∙ sym (pow-add 10 9 up)))

has_it : (text : List ℕ) (count : ℤ) → (IsSize (spelled (mantissa text)) ((pos 9 +ℤ signed (exponent text)) -ℤ pos (places (mantissa text))) (unsigned_abs count)
    × (count ≡ with_sign (begins_with_minus (mantissa text)) (unsigned_abs count))) ↔ HasBillionths text count
has_it text count =
    let negative = begins_with_minus (mantissa text) in
    let n = spelled (mantissa text) in
    let size = unsigned_abs count in
    let a : ℕ = 9 + above_zero (signed (exponent text)) in
    let b : ℕ = below_zero (signed (exponent text)) + places (mantissa text) in
    let sides = two_sides (signed (exponent text)) (places (mantissa text)) in
    let sizes : IsSize n ((pos 9 +ℤ signed (exponent text)) -ℤ pos (places (mantissa text))) size ↔ (n * 10 ^ a ≡ size * 10 ^ b) =
    subst (λ z. IsSize n z size ↔ (n * 10 ^ a ≡ size * 10 ^ b)) (sym sides) (powers n size a b) in (
      (λ h. numerator_is text ∙ of_size negative (n * 10 ^ a) count (10 ^ b) (sizes.0 h.0) h.1),
      (λ h.
          let parts = by_size negative (n * 10 ^ a) count (10 ^ b) (one-le-pow b 10 (omega arith)) (sym (numerator_is text) ∙ h) in
          (sizes.1 parts.0, parts.1)),
    )

billionths_at : (text : List ℕ) (place count : ℤ) → length (mantissa text) ≤ 16777216 → unsigned_abs count < cap
    → place ≡ (pos 9 +ℤ with_sign (begins_with_minus (exponent text)) (min (spelled (exponent text)) most)) -ℤ pos (places (mantissa text))
    → (IsSize (spelled (mantissa text)) place (unsigned_abs count) × (count ≡ with_sign (begins_with_minus (mantissa text)) (unsigned_abs count)))
    ↔ HasBillionths text count
billionths_at text place count short small place_is =
    let cut = capped (mantissa text) (spelled (exponent text)) (unsigned_abs count) (begins_with_minus (exponent text)) place short small place_is in
    let has = has_it text count in
    ((λ h. has.0 (cut.0 h.0, h.1)), (λ h. let parts = has.1 h in (cut.1 parts.0, parts.1)))

-- of the parts that the code found
pub billionths_of_parts : (text bytes m e : List ℕ) (before count : ℤ) → bytes ≡ text → mantissa bytes ≡ m → exponent bytes ≡ e → length m ≤ 16777216
    → unsigned_abs count < cap
    → before -ℤ pos (count_digits m) ≡ (pos 9 +ℤ with_sign (begins_with_minus e) (min (spelled e) most)) -ℤ pos (places m)
    → (IsSize (spelled m) (before -ℤ pos (count_digits m)) (unsigned_abs count) × (count ≡ with_sign (begins_with_minus m) (unsigned_abs count)))
    ↔ HasBillionths text count
billionths_of_parts text bytes m e before count same front behind short small place =
    let mantissa_is : mantissa text ≡ m = sym (ap mantissa same) ∙ front in
    let exponent_is : exponent text ≡ e = sym (ap exponent same) ∙ behind in
    subst
    (λ (t : List ℕ). (IsSize (spelled t) (before -ℤ pos (count_digits t)) (unsigned_abs count) × (count ≡ with_sign (begins_with_minus t) (unsigned_abs count))) ↔ HasBillionths text count)
    mantissa_is
    (billionths_at text (before -ℤ pos (count_digits (mantissa text))) count (rw mantissa_is short) small (rw (mantissa_is, exponent_is) place))
