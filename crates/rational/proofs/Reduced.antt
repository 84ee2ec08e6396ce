-- Rationals in lowest terms, of numbers of 128 bits.
use Prim.Native.Nat.{zero, suc}
use Rattle.std.proofs.Common.{◌≡◌, ◌∙◌, refl, sym, ap, subst, ℤ, pos, ◌*ℤ◌, negsuc, ◌<ℤ◌, ◌≤ℤ◌, ◌≤◌, ◌^◌, neg_ℤ, arith, [], ◌∷◌}
use Rattle.std.specs.Prelude.{unsigned_abs}
use Rattle.std.specs.Prelude.{true, false, not, FitsSigned}
use Rattle.std.specs.Int.{w128}
use Rattle.std.specs.Int.Signed.{lt_z, lt_z_yes, lt_z_no}
use Rattle.std.proofs.lemmas.Int.{ints, to_z-of_z}
use Rattle.std.proofs.Common.{T}
use Rattle.std.specs.declared.cmp.Ordering.{Ordering}
use Rattle.std.specs.declared.cmp.Ordering.TheVariants.{Less, Equal, Greater}
use Rattle.algebra.specs.Order.{int_sign}
use Rattle.algebra.specs.LowestTerms.{Parts, IsLowest, IsReduced, IsNumber}
use Rattle.algebra.specs.NumberFormulas.{upright_at}
use Rattle.algebra.specs.SurdSize.{larger_part}
use Rattle.algebra.proofs.Integers.{integers}
use Rattle.algebra.proofs.Solvers.{reads_integers, ring, sign_of_multiple}
use Rattle.algebra.proofs.LowestForms.{parts_path, greater_of_positive}
use Rattle.algebra.proofs.NumberParts.{reduced_rational, product_positive}
use Rattle.algebra.proofs.Numbers.{number_once, rational_sign}
use Rattle.algebra.proofs.RationalQuotient.{rational_quotient_is}
use Rattle.exact_number.proofs.Answered.{handed}
use Rattle.rational.specs.declared.rational.Rational.{Rational}
use Rattle.rational.specs.Rationals.{rational_parts, rational_holds, rational_numbers}

-- lowest terms of a rational are a rational
pub reduced_number : (a q x y z : ℤ) → pos 0 <ℤ q → IsReduced (record { a = a; b = pos 0; q = q }) (record { a = x; b = y; q = z })
    → IsNumber 1 (record { a = x; b = pos 0; q = z })
reduced_number a q x y z h e =
    let no_root : y ≡ pos 0 = reduced_rational (record { a = a; b = pos 0; q = q }) (record { a = x; b = y; q = z }) h e.same refl in
    record { lowest = subst (λ (b : ℤ). IsLowest (record { a = x; b = b; q = z })) no_root e.lowest; rational = λ k. refl }

-- what is reduced from the numbers of a formula p is the number that p stands for
pub same_number : (p : Parts) (a q : ℤ) (r v : Rational) → handed a ≡ p.a → handed q ≡ p.q → p.b ≡ pos 0 → pos 0 <ℤ p.q
    → IsReduced (record { a = handed a; b = pos 0; q = handed q }) (rational_parts r) → IsReduced p (rational_parts v) → r ≡ v
same_number p a q r v in_a in_q no_root q_positive h e =
    number_once 1 rational_parts p r v rational_holds q_positive
    (subst (λ (t : Parts). IsReduced t (rational_parts r)) (parts_path (record { a = handed a; b = pos 0; q = handed q }) p in_a (sym no_root) in_q) h) e

pub sign_of_rational : (x : Rational) → rational_numbers.sign x ≡ int_sign x.a
sign_of_rational x = rational_numbers.sign_is x ∙ rational_sign (rational_parts x) refl

-- lowest terms keep the sign
pub sign_reduced : (p r : Parts) → pos 0 <ℤ p.q → IsReduced p r → int_sign p.a ≡ int_sign r.a
sign_reduced p r h e =
    sym (sign_of_multiple integers r.q p.a (greater_of_positive r.q e.lowest.positive)) ∙ ap int_sign (integers.mul_comm r.q p.a ∙ e.same.rational ∙ integers.mul_comm r.a p.q)
    ∙ sign_of_multiple integers p.q r.a (greater_of_positive p.q h)

-- the quotient, by the sign of the divisor
pub quotient_reduced : (x y : Rational) (s : Ordering) → ¬ (rational_numbers.sign y ≡ Equal) → int_sign y.a ≡ s
    → IsReduced (upright_at s (record { a = x.a *ℤ y.q; b = pos 0; q = x.q *ℤ y.a })) (rational_parts (rational_numbers.div x y))
quotient_reduced x y s not_zero e =
    let sign_is : int_sign (x.q *ℤ y.a) ≡ s = sign_of_multiple integers x.q y.a (greater_of_positive x.q x.lowest.lowest.positive) ∙ e in
    subst (λ (t : Ordering). IsReduced (upright_at t (record { a = x.a *ℤ y.q; b = pos 0; q = x.q *ℤ y.a })) (rational_parts (rational_numbers.div x y))) sign_is
    (rational_quotient_is (rational_parts x) (rational_parts y) (rational_parts (rational_numbers.div x y)) x.lowest y.lowest
    (λ z. not_zero (rational_numbers.sign_is y ∙ z)) (rational_numbers.quotient_is x y not_zero))

pub below_zero_sign : (n : ℤ) → n <ℤ pos 0 → int_sign n ≡ Less
below_zero_sign (pos n) h = absurd (omega (arith, ints))
below_zero_sign (negsuc n) h = refl

pub from_zero_sign : (n : ℤ) → pos 0 ≤ℤ n → ¬ (int_sign n ≡ Equal) → int_sign n ≡ Greater
from_zero_sign (pos zero) h e = absurd (e refl)
from_zero_sign (pos (suc n)) h e = refl
from_zero_sign (negsuc n) h e = absurd (omega (arith, ints))

pub negated_positive : (q a : ℤ) → pos 0 <ℤ q → a <ℤ pos 0 → pos 0 <ℤ neg_ℤ (q *ℤ a)
negated_positive q a h j =
    let turned : q *ℤ neg_ℤ a ≡ neg_ℤ (q *ℤ a) = ring integers (q ∷ a ∷ []) (search reads_integers depth 20) (search reads_integers depth 20) tt in
    subst (λ (n : ℤ). pos 0 <ℤ n) turned (product_positive q (neg_ℤ a) h (omega (arith, ints)))

pub scaled_within : (a f : ℤ) → unsigned_abs (a *ℤ f) ≤ 2 ^ 22 → larger_part (record { a = a *ℤ f; b = pos 0 *ℤ f }) ≤ 2 ^ 22
scaled_within a f h = let zero_part : unsigned_abs (pos 0 *ℤ f) ≡ 0 = omega (arith, ints) in omega (arith, h, zero_part)

-- what a test against zero says of a number that it is handed
pub tested_below_zero : (n : ℤ) → FitsSigned w128 n → lt_z (handed n) (pos 0) ≡ true → n <ℤ pos 0
tested_below_zero n f h = lt_z_yes (subst T (sym h ∙ ap (λ m. lt_z m (pos 0)) (to_z-of_z w128 n f)) tt)

pub tested_from_zero : (n : ℤ) → FitsSigned w128 n → lt_z (handed n) (pos 0) ≡ false → pos 0 ≤ℤ n
tested_from_zero n f h = lt_z_no (subst (λ b. T (not b)) (sym h ∙ ap (λ m. lt_z m (pos 0)) (to_z-of_z w128 n f)) tt)
