-- The division of a number by one of its divisors, and the greatest common divisor of three parts, in 128 bits.
use Prim.Native.Nat.{ℕ, zero, suc, ◌%◌, ◌<◌, ◌≤◌, ◌∣◌, ◌^◌}
use Rattle.std.proofs.Common.{◌≡◌, refl, sym, ap, ap₂, ◌∙◌, subst, arith}
use Rattle.std.proofs.lemmas.Int.{ints, quot-rem, quot_fits, to_z-of_z, to_z_pos}
use Rattle.std.proofs.lemmas.Nat.Gcd.{mod-eq-zero_of_dvd, dvd_of_mod-eq-zero, le_of_dvd}
use Rattle.std.proofs.Math.Nat.{eq-zero_of_zero-dvd, mod-le}
use Rattle.std.specs.Prelude.{unsigned_abs, int_div, int_rem, FitsSigned}
use Rattle.std.specs.Int.{IsGcd, w128, cast_signed, cast_unsigned}
use lib.IntN.{ℤ, pos, negsuc, ◌+ℤ◌, ◌*ℤ◌, neg_ℤ}
use lib.Signed.{◌<ℤ◌}
use Rattle.algebra.specs.LowestTerms.{IsReduced, IsGcdOfParts}
use Rattle.algebra.proofs.LowestByGcd.{gcd_of_parts, reduced_by_gcd}

no_rest : (a d : ℤ) → pos 0 <ℤ d → unsigned_abs d ∣ unsigned_abs a → int_rem a d ≡ pos 0
no_rest (pos a) (pos d) h e = ap pos (mod-eq-zero_of_dvd d e)
no_rest (negsuc a) (pos d) h e = ap (λ n. neg_ℤ (pos n)) (mod-eq-zero_of_dvd d e)
no_rest a (negsuc d) h e = absurd (omega (arith, ints))

pub exact : (a d : ℤ) → pos 0 <ℤ d → unsigned_abs d ∣ unsigned_abs a → a ≡ int_div a d *ℤ d
exact a d h e = sym (quot-rem a d) ∙ ap (λ t. int_div a d *ℤ d +ℤ t) (no_rest a d h e) ∙ omega (arith, ints)

-- a divisor of a number above zero that fits is above zero, and fits
divisor_below : (g : ℕ) (q : ℤ) → FitsSigned w128 q → pos 0 <ℤ q → g ∣ unsigned_abs q → g < 2 ^ 127
divisor_below g (pos zero) f h e = absurd (omega (arith, ints))
divisor_below g (pos (suc n)) f h e = let le : g ≤ suc n = le_of_dvd (omega arith) e in let below : suc n < 2 ^ 127 = f.sfits in omega arith
divisor_below g (negsuc n) f h e = absurd (omega (arith, ints))

positive_size : (q : ℤ) → pos 0 <ℤ q → ¬ (unsigned_abs q ≡ 0)
positive_size (pos n) h z = omega (arith, ints)
positive_size (negsuc n) h z = omega (arith, ints)

divisor_positive : (g : ℕ) (q : ℤ) → pos 0 <ℤ q → g ∣ unsigned_abs q → pos 0 <ℤ pos g
divisor_positive zero q h e = absurd (positive_size q h (eq-zero_of_zero-dvd e))
divisor_positive (suc g) q h e = omega (arith, ints)

-- the divisor that is computed from the sizes m, n and o of the parts
module _ (a b q : ℤ) (m n o h g : ℕ) (fa : FitsSigned w128 a) (fb : FitsSigned w128 b) (fq : FitsSigned w128 q) (q_positive : pos 0 <ℤ q)
    (m_is : m ≡ unsigned_abs (cast_signed w128 (cast_unsigned w128 a))) (n_is : n ≡ unsigned_abs (cast_signed w128 (cast_unsigned w128 b)))
    (o_is : o ≡ unsigned_abs (cast_signed w128 (cast_unsigned w128 q))) (of_two : IsGcd m n h) (of_all : IsGcd h o g) where
  size_of_q : o ≡ unsigned_abs q
  size_of_q = o_is ∙ ap unsigned_abs (to_z-of_z w128 q fq)

  divides_q : g ∣ unsigned_abs q
  divides_q = subst (λ (t : ℕ). g ∣ t) size_of_q of_all.1

  pub divisor_fits : FitsSigned w128 (pos g)
  divisor_fits = record { sfits = divisor_below g q fq q_positive divides_q }

  cast_is : cast_signed w128 g ≡ pos g
  cast_is = to_z_pos w128 g (divisor_below g q fq q_positive divides_q)

  pub divisor_above_zero : pos 0 <ℤ cast_signed w128 g
  divisor_above_zero = subst (λ (t : ℤ). pos 0 <ℤ t) (sym cast_is) (divisor_positive g q q_positive divides_q)

  gcd_of_two : IsGcd (unsigned_abs a) (unsigned_abs b) h
  gcd_of_two =
      subst (λ (t : ℕ). IsGcd t (unsigned_abs b) h) (m_is ∙ ap unsigned_abs (to_z-of_z w128 a fa))
      (subst (λ (t : ℕ). IsGcd m t h) (n_is ∙ ap unsigned_abs (to_z-of_z w128 b fb)) of_two)

  pub divisor_greatest : IsGcdOfParts (record { a = a; b = b; q = q }) (unsigned_abs (cast_signed w128 g))
  divisor_greatest =
      subst (λ (t : ℤ). IsGcdOfParts (record { a = a; b = b; q = q }) (unsigned_abs t)) (sym cast_is)
      (gcd_of_parts (record { a = a; b = b; q = q }) h g gcd_of_two (subst (λ (t : ℕ). IsGcd h t g) size_of_q of_all))

above_zero_is : (g : ℤ) → pos 0 <ℤ g → g ≡ pos (unsigned_abs g)
above_zero_is (pos n) h = refl
above_zero_is (negsuc n) h = absurd (omega (arith, ints))

-- a number is the product of its part with the divisor, as numbers of 128 bits and so without bounds
part_of : (a x g : ℤ) → FitsSigned w128 a → FitsSigned w128 g → pos 0 <ℤ g → cast_signed w128 (cast_unsigned w128 a) ≡ x *ℤ cast_signed w128 (cast_unsigned w128 g)
    → a ≡ x *ℤ pos (unsigned_abs g)
part_of a x g f h g_positive e =
    sym (to_z-of_z w128 a f) ∙ e ∙ ap (λ t. x *ℤ t) (to_z-of_z w128 g h ∙ above_zero_is g g_positive)

-- the parts over their greatest common divisor are the lowest terms
pub lowest_parts : (a b q x y z g : ℤ) → FitsSigned w128 a → FitsSigned w128 b → FitsSigned w128 q → FitsSigned w128 g → pos 0 <ℤ q → pos 0 <ℤ g
    → IsGcdOfParts (record { a = cast_signed w128 (cast_unsigned w128 a); b = cast_signed w128 (cast_unsigned w128 b); q = cast_signed w128 (cast_unsigned w128 q) }) (unsigned_abs g)
    → cast_signed w128 (cast_unsigned w128 a) ≡ x *ℤ cast_signed w128 (cast_unsigned w128 g)
    → cast_signed w128 (cast_unsigned w128 b) ≡ y *ℤ cast_signed w128 (cast_unsigned w128 g)
    → cast_signed w128 (cast_unsigned w128 q) ≡ z *ℤ cast_signed w128 (cast_unsigned w128 g)
    → IsReduced (record { a = a; b = b; q = q }) (record { a = x; b = y; q = z })
lowest_parts a b q x y z g fa fb fq fg q_positive g_positive e in_a in_b in_q =
    reduced_by_gcd (record { a = a; b = b; q = q }) (record { a = x; b = y; q = z }) (unsigned_abs g) q_positive
    (rw (to_z-of_z w128 a fa, to_z-of_z w128 b fb, to_z-of_z w128 q fq) at e)
    (part_of a x g fa fg g_positive in_a) (part_of b y g fb fg g_positive in_b) (part_of q z g fq fg g_positive in_q)

-- ---- parts times a common denominator

rest_fits : (a d : ℤ) → pos 0 <ℤ a → pos 0 <ℤ d → FitsSigned w128 a → FitsSigned w128 (int_rem a d)
rest_fits (pos a) (pos d) h j f = let below : a < 2 ^ 127 = f.sfits in record { sfits = omega (arith, mod-le a d) }
rest_fits (pos a) (negsuc d) h j f = absurd (omega (arith, ints))
rest_fits (negsuc a) d h j f = absurd (omega (arith, ints))

divides_of_no_rest : (a d : ℤ) → pos 0 <ℤ a → pos 0 <ℤ d → int_rem a d ≡ pos 0 → unsigned_abs d ∣ unsigned_abs a
divides_of_no_rest (pos a) (pos d) h j e = dvd_of_mod-eq-zero d (let zero_rest : a % d ≡ 0 = cc in zero_rest)
divides_of_no_rest (pos a) (negsuc d) h j e = absurd (omega (arith, ints))
divides_of_no_rest (negsuc a) d h j e = absurd (omega (arith, ints))

module _ (part q common : ℤ) (fp : FitsSigned w128 part) (fq : FitsSigned w128 q) (fc : FitsSigned w128 common) (q_positive : pos 0 <ℤ q) (common_positive : pos 0 <ℤ common) where
  abbrev rest : ℕ
  rest = cast_unsigned w128 (int_rem (cast_signed w128 (cast_unsigned w128 common)) (cast_signed w128 (cast_unsigned w128 q)))

  rest_is : rest ≡ cast_unsigned w128 (int_rem common q)
  rest_is = ap₂ (λ s t. cast_unsigned w128 (int_rem s t)) (to_z-of_z w128 common fc) (to_z-of_z w128 q fq)

  pub no_rest_of_divisor : unsigned_abs q ∣ unsigned_abs common → rest ≡ 0
  no_rest_of_divisor d = rest_is ∙ ap (cast_unsigned w128) (no_rest common q q_positive d)

  pub divisor_of_no_rest : rest ≡ 0 → unsigned_abs q ∣ unsigned_abs common
  divisor_of_no_rest e =
      divides_of_no_rest common q common_positive q_positive
      (sym (to_z-of_z w128 (int_rem common q) (rest_fits common q common_positive q_positive fc)) ∙ ap (cast_signed w128) (sym rest_is ∙ e))

  pub part_times : (scaled : ℤ)
      → scaled ≡ cast_signed w128 (cast_unsigned w128 part) *ℤ cast_signed w128 (cast_unsigned w128 (int_div (cast_signed w128 (cast_unsigned w128 common)) (cast_signed w128 (cast_unsigned w128 q))))
      → scaled ≡ part *ℤ int_div common q
  part_times scaled e =
      e ∙ ap₂ (λ s t. s *ℤ cast_signed w128 (cast_unsigned w128 t)) (to_z-of_z w128 part fp) (ap₂ int_div (to_z-of_z w128 common fc) (to_z-of_z w128 q fq))
      ∙ ap (λ t. part *ℤ t) (to_z-of_z w128 (int_div common q) (quot_fits w128 common q fc q_positive))
