-- Each three whole numbers with q above zero are brought to lowest terms in exactly one way.
use Prim.Native.Nat.{ℕ, zero, suc, ◌*◌, ◌/◌, ◌<◌, ◌∣◌}
use mathlib.Core.Path.{◌≡◌, refl, sym, ap, subst, ◌∙◌}
use mathlib.Core.List.{[], ◌∷◌}
use native.Mathlib.Omega.{arith}
use native.Mathlib.Nat.{dvd-mul_left, div-mul_cancel}
use borrow.Author.Differences.{ints, up, down}
use lib.IntN.{ℤ, pos, negsuc, ◌+ℤ◌, ◌*ℤ◌, neg_ℤ}
use lib.Signed.{◌<ℤ◌, ◌≤ℤ◌}
use Rattle.std.specs.Prelude.{unsigned_abs}
use Rattle.std.proofs.lemmas.Int.{unsigned_abs-mul}
use Rattle.std.specs.declared.cmp.Ordering.TheVariants.{Greater}
use Rattle.algebra.specs.Order.{int_sign}
use Rattle.algebra.specs.LowestTerms.{Parts, IsLowest, StandForOne, IsReduced}
use Rattle.algebra.proofs.Integers.{integers}
use Rattle.algebra.proofs.IntegerOrder.{in_greater, out_greater}
use Rattle.algebra.proofs.Fractions.{cancel_positive}
use Rattle.algebra.proofs.Euclid.{common_factor, turned}
use Rattle.algebra.proofs.Solvers.{reads_integers, ring_from, multiple, no_equation}

pub parts_path : (p r : Parts) → p.a ≡ r.a → p.b ≡ r.b → p.q ≡ r.q → p ≡ r
parts_path p r e f g = λ i. record { a = e i; b = f i; q = g i }

-- only 1 divides 1
one_of_unit : (d : ℕ) (z : ℤ) → pos 1 ≡ pos d *ℤ z → d ≡ 1
one_of_unit d (pos zero) h = absurd (omega (arith, ints))
one_of_unit zero (pos (suc n)) h = absurd (omega (arith, ints))
one_of_unit (suc zero) (pos (suc n)) h = refl
one_of_unit (suc (suc d)) (pos (suc n)) h = absurd (omega (arith, ints))
one_of_unit d (negsuc n) h = absurd (omega (arith, ints))

-- a whole number whose size d divides is a multiple of d
as_multiple : (d : ℕ) (a : ℤ) → d ∣ unsigned_abs a → (t : ℤ) × (a ≡ t *ℤ pos d)
as_multiple d a h =
    let s = turned a in
    let e : unsigned_abs a ≡ unsigned_abs a / d * d = sym (div-mul_cancel d h) in
    (s.0 *ℤ pos (unsigned_abs a / d), s.1 ∙ ap (λ n. s.0 *ℤ pos n) e ∙ sym (integers.mul_assoc s.0 (pos (unsigned_abs a / d)) (pos d)))

divides_multiple : (d : ℕ) (a t : ℤ) → a ≡ t *ℤ pos d → d ∣ unsigned_abs a
divides_multiple d a t h = subst (λ (n : ℕ). d ∣ n) (sym (ap unsigned_abs h ∙ unsigned_abs-mul t (pos d))) (dvd-mul_left d (unsigned_abs t))

unit_combines : (a b q u v w x y z d : ℤ) → pos 1 ≡ u *ℤ a +ℤ v *ℤ b +ℤ w *ℤ q → a ≡ x *ℤ d → b ≡ y *ℤ d → q ≡ z *ℤ d
    → pos 1 ≡ d *ℤ (u *ℤ x +ℤ v *ℤ y +ℤ w *ℤ z)
unit_combines a b q u v w x y z d e in_a in_b in_q =
    ring_from integers (a ∷ b ∷ q ∷ u ∷ v ∷ w ∷ x ∷ y ∷ z ∷ d ∷ [])
    (multiple (pos 1) (search reads_integers depth 40 fits 50000) (search reads_integers depth 40 fits 50000) (search reads_integers depth 40 fits 50000) e
    (multiple u (search reads_integers depth 40 fits 50000) (search reads_integers depth 40 fits 50000) (search reads_integers depth 40 fits 50000) in_a
    (multiple v (search reads_integers depth 40 fits 50000) (search reads_integers depth 40 fits 50000) (search reads_integers depth 40 fits 50000) in_b
    (multiple w (search reads_integers depth 40 fits 50000) (search reads_integers depth 40 fits 50000) (search reads_integers depth 40 fits 50000) in_q no_equation))))
    (search reads_integers depth 40 fits 50000) (search reads_integers depth 40 fits 50000) tt

-- three numbers of which 1 is a combination have only 1 as a common divisor
coprime_of : (p : Parts) (u v w : ℤ) → pos 1 ≡ u *ℤ p.a +ℤ v *ℤ p.b +ℤ w *ℤ p.q
    → (d : ℕ) → d ∣ unsigned_abs p.a → d ∣ unsigned_abs p.b → d ∣ unsigned_abs p.q → d ≡ 1
coprime_of p u v w e d in_a in_b in_q =
    let x = as_multiple d p.a in_a in
    let y = as_multiple d p.b in_b in
    let z = as_multiple d p.q in_q in
    one_of_unit d (u *ℤ x.0 +ℤ v *ℤ y.0 +ℤ w *ℤ z.0) (unit_combines p.a p.b p.q u v w x.0 y.0 z.0 (pos d) e x.1 y.1 z.1)

-- ---- signs of factors, and what divides both ways

pub greater_of_positive : (z : ℤ) → pos 0 <ℤ z → int_sign z ≡ Greater
greater_of_positive z h = in_greater z (omega (arith, ints))

pub positive_of_greater : (z : ℤ) → int_sign z ≡ Greater → pos 0 <ℤ z
positive_of_greater z h = let e : down z < up z = out_greater z h in omega (arith, ints)

pub left_positive : (q x : ℤ) (g : ℕ) → pos 0 <ℤ q → q ≡ x *ℤ pos g → pos 0 <ℤ x
left_positive q (pos zero) g h e = absurd (omega (arith, ints))
left_positive q (pos (suc n)) g h e = omega (arith, ints)
left_positive q (negsuc n) g h e = absurd (omega (arith, ints))

pub right_positive : (q x : ℤ) (g : ℕ) → pos 0 <ℤ q → q ≡ x *ℤ pos g → pos 0 <ℤ pos g
right_positive q x zero h e = absurd (omega (arith, ints))
right_positive q x (suc g) h e = omega (arith, ints)

multiple_above : (x y m : ℤ) → pos 0 <ℤ x → pos 0 <ℤ y → y ≡ x *ℤ m → x ≤ℤ y
multiple_above x y (pos zero) h j e = absurd (omega (arith, ints))
multiple_above (pos x) y (pos (suc m)) h j e = let f : y ≡ pos (x * suc m) = e in omega (arith, ints)
multiple_above (negsuc x) y (pos (suc m)) h j e = absurd (omega (arith, ints))
multiple_above (pos zero) y (negsuc m) h j e = absurd (omega (arith, ints))
multiple_above (pos (suc x)) y (negsuc m) h j e = absurd (omega (arith, ints))
multiple_above (negsuc x) y (negsuc m) h j e = absurd (omega (arith, ints))

same_multiples : (x y m n : ℤ) → pos 0 <ℤ x → pos 0 <ℤ y → y ≡ x *ℤ m → x ≡ y *ℤ n → x ≡ y
same_multiples x y m n h j e f =
    let up_to : x ≤ℤ y = multiple_above x y m h j e in
    let down_to : y ≤ℤ x = multiple_above y x n j h f in
    omega (arith, ints)

-- ---- bringing to lowest terms

rest_combines : (a b q u v w x y z g : ℤ) → pos 0 <ℤ g → g ≡ u *ℤ a +ℤ v *ℤ b +ℤ w *ℤ q → a ≡ x *ℤ g → b ≡ y *ℤ g → q ≡ z *ℤ g
    → pos 1 ≡ u *ℤ x +ℤ v *ℤ y +ℤ w *ℤ z
rest_combines a b q u v w x y z g h e in_a in_b in_q =
    cancel_positive integers g (pos 1) (u *ℤ x +ℤ v *ℤ y +ℤ w *ℤ z) (greater_of_positive g h)
    (ring_from integers (a ∷ b ∷ q ∷ u ∷ v ∷ w ∷ x ∷ y ∷ z ∷ g ∷ [])
    (multiple (pos 1) (search reads_integers depth 40 fits 50000) (search reads_integers depth 40 fits 50000) (search reads_integers depth 40 fits 50000) e
    (multiple u (search reads_integers depth 40 fits 50000) (search reads_integers depth 40 fits 50000) (search reads_integers depth 40 fits 50000) in_a
    (multiple v (search reads_integers depth 40 fits 50000) (search reads_integers depth 40 fits 50000) (search reads_integers depth 40 fits 50000) in_b
    (multiple w (search reads_integers depth 40 fits 50000) (search reads_integers depth 40 fits 50000) (search reads_integers depth 40 fits 50000) in_q no_equation))))
    (search reads_integers depth 40 fits 50000) (search reads_integers depth 40 fits 50000) tt)

-- parts of a common factor times x and z are in the proportion of x and z
pub proportion : (a q x z g : ℤ) → a ≡ x *ℤ g → q ≡ z *ℤ g → a *ℤ z ≡ x *ℤ q
proportion a q x z g e f =
    ring_from integers (a ∷ q ∷ x ∷ z ∷ g ∷ [])
    (multiple z (search reads_integers depth 40 fits 50000) (search reads_integers depth 40 fits 50000) (search reads_integers depth 40 fits 50000) e
    (multiple (neg_ℤ x) (search reads_integers depth 40 fits 50000) (search reads_integers depth 40 fits 50000) (search reads_integers depth 40 fits 50000) f no_equation))
    (search reads_integers depth 40 fits 50000) (search reads_integers depth 40 fits 50000) tt

pub reduced : Parts → Parts
reduced p = (common_factor p).rest

pub reduced_is : (p : Parts) → pos 0 <ℤ p.q → IsReduced p (reduced p)
unfolding reduced
reduced_is p h =
    let c = common_factor p in
    let g_positive : pos 0 <ℤ pos c.g = right_positive p.q c.rest.q c.g h c.of_q in
    record {
      lowest = record {
        positive = left_positive p.q c.rest.q c.g h c.of_q;
        coprime = coprime_of c.rest c.u c.v c.w
            (rest_combines p.a p.b p.q c.u c.v c.w c.rest.a c.rest.b c.rest.q (pos c.g) g_positive c.combined c.of_a c.of_b c.of_q);
      };
      same = record {
        rational = proportion p.a p.q c.rest.a c.rest.q (pos c.g) c.of_a c.of_q;
        irrational = proportion p.b p.q c.rest.b c.rest.q (pos c.g) c.of_b c.of_q;
      };
    }

-- ---- in one way

quotient_multiple : (a b q c d r u v w : ℤ) → pos 1 ≡ u *ℤ a +ℤ v *ℤ b +ℤ w *ℤ q → a *ℤ r ≡ c *ℤ q → b *ℤ r ≡ d *ℤ q
    → r ≡ q *ℤ (u *ℤ c +ℤ v *ℤ d +ℤ w *ℤ r)
quotient_multiple a b q c d r u v w e f g =
    ring_from integers (a ∷ b ∷ q ∷ c ∷ d ∷ r ∷ u ∷ v ∷ w ∷ [])
    (multiple r (search reads_integers depth 40 fits 50000) (search reads_integers depth 40 fits 50000) (search reads_integers depth 40 fits 50000) e
    (multiple u (search reads_integers depth 40 fits 50000) (search reads_integers depth 40 fits 50000) (search reads_integers depth 40 fits 50000) f
    (multiple v (search reads_integers depth 40 fits 50000) (search reads_integers depth 40 fits 50000) (search reads_integers depth 40 fits 50000) g no_equation)))
    (search reads_integers depth 40 fits 50000) (search reads_integers depth 40 fits 50000) tt

-- the denominator in lowest terms divides every other
lowest_divides : (p r : Parts) → IsLowest p → StandForOne p r → (m : ℤ) × (r.q ≡ p.q *ℤ m)
lowest_divides p r h e =
    let c = common_factor p in
    let one : c.g ≡ 1
    = h.coprime c.g (divides_multiple c.g p.a c.rest.a c.of_a) (divides_multiple c.g p.b c.rest.b c.of_b) (divides_multiple c.g p.q c.rest.q c.of_q) in
    (c.u *ℤ r.a +ℤ c.v *ℤ r.b +ℤ c.w *ℤ r.q, quotient_multiple p.a p.b p.q r.a r.b r.q c.u c.v c.w (ap pos (sym one) ∙ c.combined) e.rational e.irrational)

pub same_numerator : (a c q : ℤ) → pos 0 <ℤ q → a *ℤ q ≡ c *ℤ q → a ≡ c
same_numerator a c q h e =
    cancel_positive integers q a c (greater_of_positive q h)
    (ring_from integers (a ∷ c ∷ q ∷ [])
    (multiple (pos 1) (search reads_integers depth 40 fits 50000) (search reads_integers depth 40 fits 50000) (search reads_integers depth 40 fits 50000) e no_equation)
    (search reads_integers depth 40 fits 50000) (search reads_integers depth 40 fits 50000) tt)

-- two numbers in lowest terms that stand for one are equal
pub lowest_once : (p r : Parts) → IsLowest p → IsLowest r → StandForOne p r → p ≡ r
lowest_once p r h j e =
    let m = lowest_divides p r h e in
    let n = lowest_divides r p j (record { rational = sym e.rational; irrational = sym e.irrational }) in
    let q : p.q ≡ r.q = same_multiples p.q r.q m.0 n.0 h.positive j.positive m.1 n.1 in
    parts_path p r
    (same_numerator p.a r.a p.q h.positive (ap (λ t. p.a *ℤ t) q ∙ e.rational))
    (same_numerator p.b r.b p.q h.positive (ap (λ t. p.b *ℤ t) q ∙ e.irrational))
    q
