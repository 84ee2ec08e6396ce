-- A quotient of numbers a + b√k, by the conjugate of the divisor, and how large its parts are in lowest terms.
use Prim.Native.Nat.{ℕ, zero, suc, ◌+◌, ◌*◌, ◌≤◌, ◌^◌, ◌∣◌}
use mathlib.Core.Path.{◌≡◌, refl, sym, ap, ap₂, subst, ◌∙◌}
use mathlib.Core.List.{[], ◌∷◌}
use native.Mathlib.Nat.{le_trans, mul-le-mul, mul-le-mul_left, dvd-mul_left}
use lib.IntN.{ℤ, pos, negsuc, ◌+ℤ◌, ◌*ℤ◌, neg_ℤ}
use lib.Signed.{◌<ℤ◌, ◌≤ℤ◌}
use Rattle.std.proofs.Common.{arith}
use Rattle.std.proofs.lemmas.Int.{ints, unsigned_abs-mul}
use Rattle.std.specs.Prelude.{unsigned_abs, Option, Some, None, MatchOption, IsSome}
use Rattle.std.specs.declared.cmp.Ordering.TheVariants.{Greater}
use Rattle.algebra.specs.Order.{product_sign}
use Rattle.algebra.specs.WholeSurds.{HoldsSurds, SurdNumbers}
use Rattle.exact_number.specs.Sizes.{whole_size}
use Rattle.exact_number.proofs.WholeSizes.{whole_sized}
use Rattle.algebra.specs.LowestTerms.{Parts, IsReduced}
use Rattle.algebra.specs.Integers.{int_ops}
use Rattle.algebra.specs.Surd.{Surd, surd_mul}
use Rattle.algebra.proofs.Euclid.{common_factor}
use Rattle.algebra.proofs.Fractions.{cancel_positive}
use Rattle.algebra.proofs.Integers.{integers}
use Rattle.algebra.proofs.LowestForms.{greater_of_positive, positive_of_greater, same_numerator}
use Rattle.algebra.proofs.NumberParts.{product_positive}
use Rattle.algebra.proofs.Solvers.{reads_integers, ring_from, multiple, no_equation}
use Rattle.algebra.proofs.SurdRing.{surd_path}
use Rattle.scaled_plane.specs.Exact.{IsNarrow, IsQuotient}

-- ---- x u / (m c) is x / (w c), where w u is m

module _ (k x1 x2 w1 w2 u1 u2 m c ra rb q : ℤ) (m_positive : pos 0 <ℤ m)
    (in_a : (x1 *ℤ u1 +ℤ k *ℤ (x2 *ℤ u2)) *ℤ q ≡ ra *ℤ (m *ℤ c)) (in_b : (x1 *ℤ u2 +ℤ x2 *ℤ u1) *ℤ q ≡ rb *ℤ (m *ℤ c))
    (norm : w1 *ℤ u1 +ℤ k *ℤ (w2 *ℤ u2) ≡ m) (no_root : w1 *ℤ u2 +ℤ w2 *ℤ u1 ≡ pos 0) where
  first_part : ra *ℤ (w1 *ℤ c) +ℤ k *ℤ (rb *ℤ (w2 *ℤ c)) ≡ x1 *ℤ q +ℤ k *ℤ (x2 *ℤ pos 0)
  first_part =
      cancel_positive integers m (ra *ℤ (w1 *ℤ c) +ℤ k *ℤ (rb *ℤ (w2 *ℤ c))) (x1 *ℤ q +ℤ k *ℤ (x2 *ℤ pos 0)) (greater_of_positive m m_positive)
      (ring_from integers (k ∷ x1 ∷ x2 ∷ w1 ∷ w2 ∷ u1 ∷ u2 ∷ m ∷ c ∷ ra ∷ rb ∷ q ∷ [])
      (multiple (neg_ℤ w1) (search reads_integers depth 40 fits 50000) (search reads_integers depth 40 fits 50000) (search reads_integers depth 40 fits 50000) in_a (multiple (neg_ℤ (k *ℤ w2)) (search reads_integers depth 40 fits 50000) (search reads_integers depth 40 fits 50000) (search reads_integers depth 40 fits 50000) in_b
      (multiple (q *ℤ x1) (search reads_integers depth 40 fits 50000) (search reads_integers depth 40 fits 50000) (search reads_integers depth 40 fits 50000) norm (multiple (q *ℤ (k *ℤ x2)) (search reads_integers depth 40 fits 50000) (search reads_integers depth 40 fits 50000) (search reads_integers depth 40 fits 50000) no_root no_equation)))) (search reads_integers depth 40 fits 50000) (search reads_integers depth 40 fits 50000) tt)

  second_part : ra *ℤ (w2 *ℤ c) +ℤ rb *ℤ (w1 *ℤ c) ≡ x1 *ℤ pos 0 +ℤ x2 *ℤ q
  second_part =
      cancel_positive integers m (ra *ℤ (w2 *ℤ c) +ℤ rb *ℤ (w1 *ℤ c)) (x1 *ℤ pos 0 +ℤ x2 *ℤ q) (greater_of_positive m m_positive)
      (ring_from integers (k ∷ x1 ∷ x2 ∷ w1 ∷ w2 ∷ u1 ∷ u2 ∷ m ∷ c ∷ ra ∷ rb ∷ q ∷ [])
      (multiple (neg_ℤ w2) (search reads_integers depth 40 fits 50000) (search reads_integers depth 40 fits 50000) (search reads_integers depth 40 fits 50000) in_a (multiple (neg_ℤ w1) (search reads_integers depth 40 fits 50000) (search reads_integers depth 40 fits 50000) (search reads_integers depth 40 fits 50000) in_b
      (multiple (q *ℤ x1) (search reads_integers depth 40 fits 50000) (search reads_integers depth 40 fits 50000) (search reads_integers depth 40 fits 50000) no_root (multiple (q *ℤ x2) (search reads_integers depth 40 fits 50000) (search reads_integers depth 40 fits 50000) (search reads_integers depth 40 fits 50000) norm no_equation)))) (search reads_integers depth 40 fits 50000) (search reads_integers depth 40 fits 50000) tt)

abbrev pub over : Surd ℤ → ℤ → Parts
over x q = record { a = x.a; b = x.b; q = q }

pub is_quotient : (k : ℕ) (x w u : Surd ℤ) (m c : ℤ) (r : Parts) → pos 0 <ℤ m → surd_mul int_ops (pos k) w u ≡ record { a = m; b = pos 0 }
    → IsReduced (over (surd_mul int_ops (pos k) x u) (m *ℤ c)) r → IsQuotient k x w c r
is_quotient k x w u m c r positive e h =
    let norm = ap (λ (y : Surd ℤ). y.a) e in
    let no_root = ap (λ (y : Surd ℤ). y.b) e in
    record {
      lowest = h.lowest;
      fraction = surd_path (surd_mul int_ops (pos k) (record { a = r.a; b = r.b }) (record { a = w.a *ℤ c; b = w.b *ℤ c })) (surd_mul int_ops (pos k) x (record { a = r.q; b = pos 0 }))
          (first_part (pos k) x.a x.b w.a w.b u.a u.b m c r.a r.b r.q positive h.same.rational h.same.irrational norm no_root)
          (second_part (pos k) x.a x.b w.a w.b u.a u.b m c r.a r.b r.q positive h.same.rational h.same.irrational norm no_root);
    }

-- ---- lowest terms are smallest

divides_multiple : (d : ℕ) (a t : ℤ) → a ≡ t *ℤ pos d → d ∣ unsigned_abs a
divides_multiple d a t h = subst (λ (n : ℕ). d ∣ n) (sym (ap unsigned_abs h ∙ unsigned_abs-mul t (pos d))) (dvd-mul_left d (unsigned_abs t))

quotient_multiple : (a b q c d r u v w : ℤ) → pos 1 ≡ u *ℤ a +ℤ v *ℤ b +ℤ w *ℤ q → c *ℤ q ≡ a *ℤ r → d *ℤ q ≡ b *ℤ r
    → r ≡ q *ℤ (u *ℤ c +ℤ v *ℤ d +ℤ w *ℤ r)
quotient_multiple a b q c d r u v w e f g =
    ring_from integers (a ∷ b ∷ q ∷ c ∷ d ∷ r ∷ u ∷ v ∷ w ∷ []) (multiple r (search reads_integers depth 40 fits 50000) (search reads_integers depth 40 fits 50000) (search reads_integers depth 40 fits 50000) e (multiple (neg_ℤ u) (search reads_integers depth 40 fits 50000) (search reads_integers depth 40 fits 50000) (search reads_integers depth 40 fits 50000) f (multiple (neg_ℤ v) (search reads_integers depth 40 fits 50000) (search reads_integers depth 40 fits 50000) (search reads_integers depth 40 fits 50000) g no_equation))) (search reads_integers depth 40 fits 50000) (search reads_integers depth 40 fits 50000) tt

-- the denominator is a multiple of the one in lowest terms
denominator_multiple : (p r : Parts) → IsReduced p r → (m : ℤ) × (p.q ≡ r.q *ℤ m)
denominator_multiple p r h =
    let f = common_factor r in
    let one : f.g ≡ 1
    = h.lowest.coprime f.g (divides_multiple f.g r.a f.rest.a f.of_a) (divides_multiple f.g r.b f.rest.b f.of_b) (divides_multiple f.g r.q f.rest.q f.of_q) in
    (f.u *ℤ p.a +ℤ f.v *ℤ p.b +ℤ f.w *ℤ p.q, quotient_multiple r.a r.b r.q p.a p.b p.q f.u f.v f.w (ap pos (sym one) ∙ f.combined) h.same.rational h.same.irrational)

numerator_multiple : (a c q r m : ℤ) → pos 0 <ℤ q → a *ℤ q ≡ c *ℤ r → r ≡ q *ℤ m → a ≡ c *ℤ m
numerator_multiple a c q r m positive e f =
    same_numerator a (c *ℤ m) q positive
    (ring_from integers (a ∷ c ∷ q ∷ r ∷ m ∷ []) (multiple (pos 1) (search reads_integers depth 40 fits 50000) (search reads_integers depth 40 fits 50000) (search reads_integers depth 40 fits 50000) e (multiple c (search reads_integers depth 40 fits 50000) (search reads_integers depth 40 fits 50000) (search reads_integers depth 40 fits 50000) f no_equation)) (search reads_integers depth 40 fits 50000) (search reads_integers depth 40 fits 50000) tt)

no_larger : (x y m : ℤ) → x ≡ y *ℤ m → 1 ≤ unsigned_abs m → unsigned_abs y ≤ unsigned_abs x
no_larger x y m e h =
    let size : unsigned_abs x ≡ unsigned_abs y * unsigned_abs m = ap unsigned_abs e ∙ unsigned_abs-mul y m in
    omega (arith, size, mul-le-mul_left (unsigned_abs y) h)

some_factor : (n d m : ℕ) → 1 ≤ n → n ≡ d * m → 1 ≤ m
some_factor n d zero h e = absurd (omega (arith, h, e))
some_factor n d (suc m) h e = omega arith

some_multiple : (q r m : ℤ) → pos 0 <ℤ q → q ≡ r *ℤ m → 1 ≤ unsigned_abs m
some_multiple q r m h e =
    let size : unsigned_abs q ≡ unsigned_abs r * unsigned_abs m = ap unsigned_abs e ∙ unsigned_abs-mul r m in
    let some : 1 ≤ unsigned_abs q = omega (arith, ints, h) in
    some_factor (unsigned_abs q) (unsigned_abs r) (unsigned_abs m) some size

-- a part in lowest terms is no larger than it was
pub narrow_of : (p r : Parts) → pos 0 <ℤ p.q → IsReduced p r → unsigned_abs p.a ≤ 2 ^ 92 → unsigned_abs p.b ≤ 2 ^ 92 → unsigned_abs p.q ≤ 2 ^ 92 → IsNarrow r
narrow_of p r positive h in_a in_b in_q =
    let m = denominator_multiple p r h in
    let some : 1 ≤ unsigned_abs m.0 = some_multiple p.q r.q m.0 positive m.1 in
    let no_larger_a = no_larger p.a r.a m.0 (numerator_multiple p.a r.a r.q p.q m.0 h.lowest.positive h.same.rational m.1) some in
    let no_larger_b = no_larger p.b r.b m.0 (numerator_multiple p.b r.b r.q p.q m.0 h.lowest.positive h.same.irrational m.1) some in
    let no_larger_q = no_larger p.q r.q m.0 m.1 some in
    record { a_within = omega (arith, no_larger_a, in_a); b_within = omega (arith, no_larger_b, in_b); q_within = omega (arith, no_larger_q, in_q) }

-- ---- without a root, the quotient is that of the first parts

module _ (x1 x2 w1 w2 c ra rb q : ℤ) (x_rational : x2 ≡ pos 0) (w_rational : w2 ≡ pos 0) where
  rational_first : ra *ℤ (w1 *ℤ c) +ℤ pos 1 *ℤ (rb *ℤ (w2 *ℤ c)) ≡ x1 *ℤ q +ℤ pos 1 *ℤ (x2 *ℤ pos 0) → x1 *ℤ q ≡ ra *ℤ (w1 *ℤ c)
  rational_first e =
      ring_from integers (x1 ∷ x2 ∷ w1 ∷ w2 ∷ c ∷ ra ∷ rb ∷ q ∷ []) (multiple (negsuc 0) (search reads_integers depth 40 fits 50000) (search reads_integers depth 40 fits 50000) (search reads_integers depth 40 fits 50000) e (multiple (rb *ℤ c) (search reads_integers depth 40 fits 50000) (search reads_integers depth 40 fits 50000) (search reads_integers depth 40 fits 50000) w_rational no_equation)) (search reads_integers depth 40 fits 50000) (search reads_integers depth 40 fits 50000) tt

  rational_second : ra *ℤ (w2 *ℤ c) +ℤ rb *ℤ (w1 *ℤ c) ≡ x1 *ℤ pos 0 +ℤ x2 *ℤ q → pos 0 *ℤ q ≡ rb *ℤ (w1 *ℤ c)
  rational_second e =
      ring_from integers (x1 ∷ x2 ∷ w1 ∷ w2 ∷ c ∷ ra ∷ rb ∷ q ∷ []) (multiple (negsuc 0) (search reads_integers depth 40 fits 50000) (search reads_integers depth 40 fits 50000) (search reads_integers depth 40 fits 50000) e (multiple (ra *ℤ c) (search reads_integers depth 40 fits 50000) (search reads_integers depth 40 fits 50000) (search reads_integers depth 40 fits 50000) w_rational (multiple (neg_ℤ q) (search reads_integers depth 40 fits 50000) (search reads_integers depth 40 fits 50000) (search reads_integers depth 40 fits 50000) x_rational no_equation))) (search reads_integers depth 40 fits 50000) (search reads_integers depth 40 fits 50000) tt

pub rational_reduced : (x w : Surd ℤ) (c : ℤ) (r : Parts) → x.b ≡ pos 0 → w.b ≡ pos 0 → IsQuotient 1 x w c r
    → IsReduced (record { a = x.a; b = pos 0; q = w.a *ℤ c }) r
rational_reduced x w c r hx hw h = record {
  lowest = h.lowest;
  same = record {
    rational = rational_first x.a x.b w.a w.b c r.a r.b r.q hx hw (ap (λ (y : Surd ℤ). y.a) h.fraction);
    irrational = rational_second x.a x.b w.a w.b c r.a r.b r.q hx hw (ap (λ (y : Surd ℤ). y.b) h.fraction);
  };
}

-- ---- answers

pub answers : {X : Type 0} (o : Option X) (P P' : Type 0) (Q Q' : X → Type 0) → (P → P') → ((x : X) → Q x → Q' x) → MatchOption o P Q → MatchOption o P' Q'
answers None P P' Q Q' f g h = f h
answers (Some x) P P' Q Q' f g h = g x h

pub answered : {X : Type 0} (o : Option X) (P : Type 0) (Q : X → Type 0) → ¬ P → MatchOption o P Q → IsSome o
answered None P Q f h = absurd (f h)
answered (Some x) P Q f h = refl

-- ---- a coordinate of a point

pub size_of_common : (c : ℤ) (n : ℕ) → pos 0 <ℤ c → c ≤ℤ pos n → unsigned_abs c ≤ n
size_of_common c n positive within = omega (arith, ints, positive, within)

module _ {W N : Type 0} {k : ℕ} {surd : W → Surd ℤ} (numbers : SurdNumbers k surd) (parts : N → Parts) (x w u : W) (m c : ℤ)
    (above : numbers.sign w ≡ Greater) (other_above : numbers.sign u ≡ Greater) (product : numbers.mul w u ≡ numbers.int m) (c_positive : pos 0 <ℤ c) where
  pub product_above : pos 0 <ℤ m
  product_above =
      positive_of_greater m
      (sym (numbers.sign_int m) ∙ ap numbers.sign (sym product) ∙ numbers.sign_mul w u ∙ ap₂ product_sign above other_above)

  norm_is : surd_mul int_ops (pos k) (surd w) (surd u) ≡ record { a = m; b = pos 0 }
  norm_is = sym (numbers.product_is w u) ∙ ap surd product ∙ numbers.whole_is m

  -- what the division by the product answers
  abbrev pub Divides : Option N → Type 0
  Divides o = MatchOption o ((r : Parts) × IsReduced (over (surd (numbers.mul x u)) (m *ℤ c)) r × ¬ IsNarrow r)
      (λ n. IsReduced (over (surd (numbers.mul x u)) (m *ℤ c)) (parts n) × IsNarrow (parts n))

  abbrev pub Quotes : ℕ → Option N → Type 0
  Quotes j o = MatchOption o ((r : Parts) × IsQuotient j (surd x) (surd w) c r × ¬ IsNarrow r)
      (λ n. IsQuotient j (surd x) (surd w) c (parts n) × IsNarrow (parts n))

  to_quotient : (r : Parts) → IsReduced (over (surd (numbers.mul x u)) (m *ℤ c)) r → IsQuotient k (surd x) (surd w) c r
  to_quotient r h =
      is_quotient k (surd x) (surd w) (surd u) m c r product_above norm_is
      (subst (λ (y : Surd ℤ). IsReduced (over y (m *ℤ c)) r) (numbers.product_is x u) h)

  pub quotes : (o : Option N) → Divides o → Quotes k o
  quotes o h =
      answers o ((r : Parts) × IsReduced (over (surd (numbers.mul x u)) (m *ℤ c)) r × ¬ IsNarrow r) ((r : Parts) × IsQuotient k (surd x) (surd w) c r × ¬ IsNarrow r)
      (λ n. IsReduced (over (surd (numbers.mul x u)) (m *ℤ c)) (parts n) × IsNarrow (parts n)) (λ n. IsQuotient k (surd x) (surd w) c (parts n) × IsNarrow (parts n))
      (λ f. (f.0, to_quotient f.0 f.1, f.2)) (λ n f. (to_quotient (parts n) f.0, f.1)) h

  -- never too wide where the sizes are small
  pub small_some : (k_at_most : k ≤ 3) → whole_size (surd u) ≡ whole_size (surd w) → whole_size (surd x) ≤ 27 * 2 ^ 48 → whole_size (surd w) ≤ 9 * 2 ^ 33 → c ≤ℤ pos (2 ^ 12)
      → (o : Option N) → Divides o → IsSome o
  small_some k_at_most same small_x small_w within o h =
      answered o ((r : Parts) × IsReduced (over (surd (numbers.mul x u)) (m *ℤ c)) r × ¬ IsNarrow r)
      (λ n. IsReduced (over (surd (numbers.mul x u)) (m *ℤ c)) (parts n) × IsNarrow (parts n)) (λ f. f.2 (narrow f.0 f.1)) h
    where
      small_u : whole_size (surd u) ≤ 9 * 2 ^ 33
      small_u = omega (arith, same, small_w)

      product_size : whole_size (surd (numbers.mul x u)) ≤ (27 * 2 ^ 48) * (9 * 2 ^ 33)
      product_size = le_trans ((whole_sized k surd numbers k_at_most).size_mul x u) (mul-le-mul small_x small_u)

      norm_size : unsigned_abs m + 2 * 0 ≤ (9 * 2 ^ 33) * (9 * 2 ^ 33)
      norm_size =
          subst (λ (y : Surd ℤ). whole_size y ≤ (9 * 2 ^ 33) * (9 * 2 ^ 33)) (ap surd product ∙ numbers.whole_is m)
          (le_trans ((whole_sized k surd numbers k_at_most).size_mul w u) (mul-le-mul small_w small_u))

      m_size : unsigned_abs m ≤ (9 * 2 ^ 33) * (9 * 2 ^ 33)
      m_size = omega (arith, norm_size)

      denominator_size : unsigned_abs (m *ℤ c) ≤ ((9 * 2 ^ 33) * (9 * 2 ^ 33)) * 2 ^ 12
      denominator_size = subst (λ (n : ℕ). n ≤ ((9 * 2 ^ 33) * (9 * 2 ^ 33)) * 2 ^ 12) (sym (unsigned_abs-mul m c)) (mul-le-mul m_size (size_of_common c (2 ^ 12) c_positive within))

      narrow : (r : Parts) → IsReduced (over (surd (numbers.mul x u)) (m *ℤ c)) r → IsNarrow r
      narrow r f =
          narrow_of (over (surd (numbers.mul x u)) (m *ℤ c)) r (product_positive m c product_above c_positive) f
          (omega (arith, product_size)) (omega (arith, product_size)) (omega (arith, denominator_size))

  -- nor for the rationals
  pub rational_some : (holds : HoldsSurds k surd) → k ≡ 1 → whole_size (surd x) ≤ 27 * 2 ^ 69 → whole_size (surd w) ≤ 9 * 2 ^ 47 → c ≤ℤ pos (2 ^ 24)
      → (o : Option N) → Divides o → IsSome o
  rational_some holds e small_x small_w within o h =
      answered o ((r : Parts) × IsReduced (over (surd (numbers.mul x u)) (m *ℤ c)) r × ¬ IsNarrow r)
      (λ n. IsReduced (over (surd (numbers.mul x u)) (m *ℤ c)) (parts n) × IsNarrow (parts n)) (λ f. f.2 (narrow f.0 (to_quotient f.0 f.1))) h
    where
      whole_w : w ≡ numbers.int (surd w).a
      whole_w = holds.once w (numbers.int (surd w).a) (surd_path (surd w) (record { a = (surd w).a; b = pos 0 }) refl (holds.rational w e) ∙ sym (numbers.whole_is (surd w).a))

      w_positive : pos 0 <ℤ (surd w).a
      w_positive = positive_of_greater (surd w).a (sym (numbers.sign_int (surd w).a) ∙ ap numbers.sign (sym whole_w) ∙ above)

      w_size : unsigned_abs (surd w).a ≤ 9 * 2 ^ 47
      w_size = omega (arith, small_w)

      denominator_size : unsigned_abs ((surd w).a *ℤ c) ≤ (9 * 2 ^ 47) * 2 ^ 24
      denominator_size = subst (λ (n : ℕ). n ≤ (9 * 2 ^ 47) * 2 ^ 24) (sym (unsigned_abs-mul (surd w).a c)) (mul-le-mul w_size (size_of_common c (2 ^ 24) c_positive within))

      narrow : (r : Parts) → IsQuotient k (surd x) (surd w) c r → IsNarrow r
      narrow r f =
          narrow_of (record { a = (surd x).a; b = pos 0; q = (surd w).a *ℤ c }) r (product_positive (surd w).a c w_positive c_positive)
          (rational_reduced (surd x) (surd w) c r (holds.rational x e) (holds.rational w e) (subst (λ (j : ℕ). IsQuotient j (surd x) (surd w) c r) e f))
          (omega (arith, small_x)) (omega arith) (omega (arith, denominator_size))
