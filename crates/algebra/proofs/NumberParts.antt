-- The formulas of numbers on their parts: denominators above zero, no irrational part where both numbers have none.
use Prim.Native.Nat.{ℕ, zero, suc, ◌<◌, ◌∣◌}
use mathlib.Core.Path.{◌≡◌, refl, sym, ap, ap₂, subst, ◌∙◌}
use mathlib.Core.List.{[], ◌∷◌}
use native.Mathlib.Omega.{arith}
use native.Mathlib.Nat.{dvd-one}
use borrow.Author.Differences.{ints, up, down}
use lib.IntN.{ℤ, pos, negsuc, ◌+ℤ◌, ◌-ℤ◌, ◌*ℤ◌, neg_ℤ}
use lib.Signed.{◌<ℤ◌}
use Rattle.std.specs.Prelude.{unsigned_abs}
use Rattle.std.specs.declared.cmp.Ordering.{Ordering}
use Rattle.std.specs.declared.cmp.Ordering.TheVariants.{Less, Equal, Greater}
use Rattle.algebra.specs.Order.{int_sign, product_sign}
use Rattle.algebra.specs.Surd.{by_norm}
use Rattle.algebra.specs.LowestTerms.{Parts, IsLowest, StandForOne, IsNumber}
use Rattle.algebra.specs.NumberFormulas.{whole_parts, opposite, negated, sum, difference, product, norm, by_conjugate, upright_at, quotient, parts_sign}
use Rattle.algebra.proofs.Integers.{integers}
use Rattle.algebra.proofs.Solvers.{reads_integers, ring_from, multiple, no_equation}
use Rattle.algebra.proofs.IntegerOrder.{out_less}
use Rattle.algebra.proofs.LowestForms.{same_numerator, greater_of_positive, positive_of_greater}

pub whole_lowest : (n : ℤ) → IsLowest (whole_parts n)
whole_lowest n = record { positive = omega (arith, ints); coprime = λ d a b q. dvd-one.0 q }

abs_neg : (a : ℤ) → unsigned_abs (neg_ℤ a) ≡ unsigned_abs a
abs_neg (pos zero) = refl
abs_neg (pos (suc n)) = refl
abs_neg (negsuc n) = refl

pub opposite_lowest : (p : Parts) → IsLowest p → IsLowest (opposite p)
opposite_lowest p h = record {
  positive = h.positive;
  coprime = λ d a b q. h.coprime d (subst (λ (n : ℕ). d ∣ n) (abs_neg p.a) a) (subst (λ (n : ℕ). d ∣ n) (abs_neg p.b) b) q;
}

pub stand_alike : (p r : Parts) → p ≡ r → StandForOne p r
stand_alike p r e = record { rational = ap (λ (t : Parts). p.a *ℤ t.q) (sym e) ∙ ap (λ (t : Parts). t.a *ℤ p.q) e; irrational = ap (λ (t : Parts). p.b *ℤ t.q) (sym e) ∙ ap (λ (t : Parts). t.b *ℤ p.q) e }

pub product_positive : (m n : ℤ) → pos 0 <ℤ m → pos 0 <ℤ n → pos 0 <ℤ (m *ℤ n)
product_positive m n h j =
    positive_of_greater (m *ℤ n) (integers.sign_mul m n ∙ ap₂ product_sign (greater_of_positive m h) (greater_of_positive n j))

-- lowest terms of a rational number are rational
pub reduced_rational : (p r : Parts) → pos 0 <ℤ p.q → StandForOne p r → p.b ≡ pos 0 → r.b ≡ pos 0
reduced_rational p r h e z =
    same_numerator r.b (pos 0) p.q h (sym e.irrational ∙ ap (λ t. t *ℤ r.q) z ∙ omega (arith, ints))

-- ---- quotients

-- a number whose norm is zero is zero
norm_not_zero : (k : ℕ) (r : Parts) → ¬ (parts_sign k r ≡ Equal) → ¬ (int_sign (norm k r) ≡ Equal)
norm_not_zero k r h e = h (ap (λ s. by_norm s (int_sign r.a) (int_sign r.b)) e)

after_positive : (s t : Ordering) → s ≡ Greater → product_sign s t ≡ Equal → t ≡ Equal
after_positive Less t h e = absurd (cc)
after_positive Equal t h e = absurd (cc)
after_positive Greater t h e = e

upright_positive_at : (s : Ordering) (p : Parts) → int_sign p.q ≡ s → ¬ (s ≡ Equal) → pos 0 <ℤ (upright_at s p).q
upright_positive_at Less p e h = let f : up p.q < down p.q = out_less p.q e in omega (arith, ints)
upright_positive_at Equal p e h = absurd (h refl)
upright_positive_at Greater p e h = positive_of_greater p.q e

pub quotient_positive : (k : ℕ) (p r : Parts) → pos 0 <ℤ p.q → ¬ (parts_sign k r ≡ Equal) → pos 0 <ℤ (quotient k p r).q
quotient_positive k p r h n =
    let not_zero : ¬ (int_sign (p.q *ℤ norm k r) ≡ Equal)
    = λ e. norm_not_zero k r n (after_positive (int_sign p.q) (int_sign (norm k r)) (greater_of_positive p.q h) (sym (integers.sign_mul p.q (norm k r)) ∙ e)) in
    upright_positive_at (int_sign (p.q *ℤ norm k r)) (by_conjugate k p r) refl not_zero

upright_rational : (s : Ordering) (p : Parts) → p.b ≡ pos 0 → (upright_at s p).b ≡ pos 0
upright_rational Less p e = ap neg_ℤ e
upright_rational Equal p e = e
upright_rational Greater p e = e

-- ---- other forms of one number

turned_left : (a q b r : ℤ) → a *ℤ r ≡ b *ℤ q → neg_ℤ a *ℤ r ≡ b *ℤ neg_ℤ q
turned_left a q b r e =
    ring_from integers (a ∷ q ∷ b ∷ r ∷ [])
    (multiple (negsuc 0) (search reads_integers depth 40 fits 50000) (search reads_integers depth 40 fits 50000) (search reads_integers depth 40 fits 50000) e no_equation)
    (search reads_integers depth 40 fits 50000) (search reads_integers depth 40 fits 50000) tt

swapped : (p r : Parts) → StandForOne p r → StandForOne r p
swapped p r e = record { rational = sym e.rational; irrational = sym e.irrational }

left_negated : (p r : Parts) → StandForOne p r → StandForOne (negated p) r
left_negated p r e = record { rational = turned_left p.a p.q r.a r.q e.rational; irrational = turned_left p.b p.q r.b r.q e.irrational }

pub left_upright : (s : Ordering) (p r : Parts) → StandForOne p r → StandForOne (upright_at s p) r
left_upright Less p r e = left_negated p r e
left_upright Equal p r e = e
left_upright Greater p r e = e

pub both_upright : (s t : Ordering) (p r : Parts) → StandForOne p r → StandForOne (upright_at s p) (upright_at t r)
both_upright s t p r e = left_upright s p (upright_at t r) (swapped (upright_at t r) p (left_upright t r p (swapped p r e)))

-- ---- of rational numbers

pub equal_of_zero : (m n : ℤ) → m -ℤ n ≡ pos 0 → m ≡ n
equal_of_zero m n h = omega (arith, ints)

pub zero_sum : (a b q r : ℤ) → a ≡ pos 0 → b ≡ pos 0 → a *ℤ q +ℤ b *ℤ r ≡ pos 0
zero_sum a b q r e f = ap₂ (λ s t. s *ℤ q +ℤ t *ℤ r) e f ∙ omega (arith, ints)

zero_difference : (a b q r : ℤ) → a ≡ pos 0 → b ≡ pos 0 → a *ℤ q -ℤ b *ℤ r ≡ pos 0
zero_difference a b q r e f = ap₂ (λ s t. s *ℤ q -ℤ t *ℤ r) e f ∙ omega (arith, ints)

module _ (k : ℕ) (p r : Parts) (x : IsNumber k p) (y : IsNumber k r) (e : k ≡ 1) where
  pub sum_rational : (sum p r).b ≡ pos 0
  sum_rational = zero_sum p.b r.b r.q p.q (x.rational e) (y.rational e)

  pub difference_rational : (difference p r).b ≡ pos 0
  difference_rational = zero_difference p.b r.b r.q p.q (x.rational e) (y.rational e)

  pub product_rational : (product k p r).b ≡ pos 0
  product_rational = ap (λ t. t +ℤ r.a *ℤ p.b) (integers.mul_comm p.a r.b) ∙ ap (λ t. r.b *ℤ p.a +ℤ t) (integers.mul_comm r.a p.b) ∙ zero_sum r.b p.b p.a r.a (y.rational e) (x.rational e)

  pub quotient_rational : (quotient k p r).b ≡ pos 0
  quotient_rational =
      upright_rational (int_sign (by_conjugate k p r).q) (by_conjugate k p r)
      (ap (λ t. t *ℤ r.q) (ap (λ t. p.b *ℤ r.a -ℤ t) (integers.mul_comm p.a r.b) ∙ zero_difference p.b r.b r.a p.a (x.rational e) (y.rational e)) ∙ omega (arith, ints))
