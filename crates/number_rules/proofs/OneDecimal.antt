-- A fraction is rounded to one whole number, and so a text has one decimal.
use Rattle.std.proofs.Common.{◌≡◌, ◌∙◌, refl, sym, ap, subst, ℕ, ℤ, pos, negsuc, suc, ◌+◌, ◌-◌, ◌*◌, ◌/◌, ◌%◌, ◌<◌, ◌+ℤ◌, ◌*ℤ◌, inl, inr, arith, Bool, true, false, List, [], ◌∷◌, add-mul, one-mul}
use Rattle.std.specs.Prelude.{neg_ℤ, unsigned_abs}
use Rattle.std.specs.Ordering.{int_eq}
use Rattle.std.proofs.Math.Nat.{mod-lt, one-le-pow}
use Rattle.std.proofs.lemmas.Bool.{cases_lt}
use Rattle.std.proofs.lemmas.Bool.Decides.{Decides-int_eq, same_from_decides}
use Rattle.std.proofs.lemmas.Nat.{div-add-mod'}
use Rattle.std.proofs.lemmas.Int.{ints}
use Rattle.algebra.proofs.Integers.{integers}
use Rattle.algebra.proofs.Solvers.{ring, reads_integers}
use Rattle.number_rules.specs.Rounded.{IsRounded, IsSteps, IsDecimal, Keeps, steps_of_one}
use Rattle.number_rules.specs.Value.{numerator, denominator, below_zero, signed, exponent, places, mantissa}
use Rattle.number_rules.specs.declared.decimal.Decimal.{Decimal}
use Rattle.number_rules.proofs.Exponents.{rounded_once}
use Rattle.number_rules.proofs.Steps.{limit}

-- ---- one

decimal_path : (x y : Decimal) → x.far ≡ y.far → x.near ≡ y.near → x.exact ≡ y.exact → x ≡ y
decimal_path x y e f g = λ i. record { far = e i; near = f i; exact = g i }

keeps_once : (n : ℤ) (d : ℕ) (r : ℤ) (far : Bool) (near : ℤ) (exact : Bool) (also_far : Bool) (also_near : ℤ) (also_exact : Bool)
    → Keeps n d r far near exact → Keeps n d r also_far also_near also_exact → (far ≡ also_far) × (near ≡ also_near) × (exact ≡ also_exact)
keeps_once n d r true near exact true also_near also_exact is has = (refl, is.1 ∙ sym has.1, is.2 ∙ sym has.2)
keeps_once n d r false near exact false also_near also_exact is has = (refl, is.1 ∙ sym has.1, same_from_decides exact also_exact is.2 has.2)
keeps_once n d r true near exact false also_near also_exact is has = absurd (omega (arith, is.0, has.0))
keeps_once n d r false near exact true also_near also_exact is has = absurd (omega (arith, is.0, has.0))

steps_once : (n : ℤ) (d : ℕ) (x y : Decimal) → IsSteps n d x → IsSteps n d y → x ≡ y
steps_once n d x y is has =
    let same : has.0 ≡ is.0 = rounded_once n d has.0 is.0 has.1 is.1 in
    let one = keeps_once n d is.0 x.far x.near x.exact y.far y.near y.exact is.2 (subst (λ (r : ℤ). Keeps n d r y.far y.near y.exact) same has.2) in
    decimal_path x y one.0 one.1 one.2

-- ---- there is one

before_zero : (q d : ℕ) → neg_ℤ (pos (suc q)) *ℤ pos d ≡ neg_ℤ (pos (q * d + d))
before_zero q d = turned (pos (suc q)) (pos d) ∙ ap (λ (t : ℕ). neg_ℤ (pos t)) (next q d)
  where
    turned : (x y : ℤ) → neg_ℤ x *ℤ y ≡ neg_ℤ (x *ℤ y)
    turned x y = ring integers (x ∷ y ∷ []) (search reads_integers depth 20) (search reads_integers depth 20) tt

    next : (q d : ℕ) → suc q * d ≡ q * d + d
    next q d = ap (λ (t : ℕ). t * d) (one_more q) ∙ add-mul q 1 d ∙ ap (λ (t : ℕ). q * d + t) (one-mul d)
      where
        one_more : (q : ℕ) → suc q ≡ q + 1
        one_more q = omega arith

-- a whole number by another, with what is left
pub divided : (z : ℤ) (d : ℕ) → 0 < d → (q : ℤ) × (rest : ℕ) × (z ≡ q *ℤ pos d +ℤ pos rest) × (rest < d)
divided (pos a) d some = (pos (a / d), a % d, ap pos (sym (div-add-mod' a d)), mod-lt a some)
divided (negsuc a) d some =
    let whole : a ≡ (a / d) * d + a % d = sym (div-add-mod' a d) in
    let less : a % d < d = mod-lt a some in
    (neg_ℤ (pos (suc (a / d))), (d - 1) - a % d, omega (arith, ints, whole, less, before_zero (a / d) d), omega (arith, less))

pub some_rounded : (n : ℤ) (d : ℕ) → 0 < d → (r : ℤ) × IsRounded n d r
some_rounded n d some =
    let (q, rest, whole, less) = divided (pos 2 *ℤ n +ℤ pos d) (2 * d) (omega (arith, some)) in
    let e : pos 2 *ℤ n +ℤ pos d ≡ pos 2 *ℤ (q *ℤ pos d) +ℤ pos rest = whole ∙ ap (λ (t : ℤ). t +ℤ pos rest) (twice q (pos d)) in
    (q, (omega (arith, ints, e), omega (arith, ints, e, less)))
  where
    twice : (q d : ℤ) → q *ℤ (pos 2 *ℤ d) ≡ pos 2 *ℤ (q *ℤ d)
    twice q d = ring integers (q ∷ d ∷ []) (search reads_integers depth 20) (search reads_integers depth 20) tt

some_steps : (n : ℤ) (d : ℕ) → 0 < d → (x : Decimal) × IsSteps n d x
some_steps n d some =
    let (r, rounded) = some_rounded n d some in
    elim (cases_lt limit (unsigned_abs r)) [
      | inl past ↦ (record { far = true; near = pos 0; exact = false }, (r, rounded, (past, refl, refl)))
      | inr within ↦ (record { far = false; near = r; exact = int_eq n (r *ℤ pos d) }, (r, rounded, (within, refl, Decides-int_eq n (r *ℤ pos d))))
    ]

some_denominator : (text : List ℕ) → 0 < denominator text
some_denominator text = one-le-pow (below_zero (signed (exponent text)) + places (mantissa text)) 10 (omega arith)

pub decimal_once : (text : List ℕ) (x y : Decimal) → IsDecimal text x → IsDecimal text y → x ≡ y
decimal_once text x y is has = steps_once (pos steps_of_one *ℤ numerator text) (denominator text) x y is has

pub some_decimal : (text : List ℕ) → (x : Decimal) × IsDecimal text x
some_decimal text = some_steps (pos steps_of_one *ℤ numerator text) (denominator text) (some_denominator text)
