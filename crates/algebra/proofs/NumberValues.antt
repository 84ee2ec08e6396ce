-- What parts stand for: the fraction (a + b√k) / q over an ordered ring with a root of k.
use Prim.Native.Nat.{ℕ}
use mathlib.Core.Path.{◌≡◌, sym, ap, ◌∙◌}
use mathlib.Core.List.{[], ◌∷◌}
use native.Mathlib.Omega.{arith}
use borrow.Author.Differences.{ints}
use lib.IntN.{ℤ, pos, negsuc, ◌-ℤ◌, ◌*ℤ◌, neg_ℤ}
use lib.Signed.{◌<ℤ◌}
use Rattle.std.specs.declared.cmp.Ordering.{Ordering}
use Rattle.std.specs.declared.cmp.Ordering.TheVariants.{Less, Equal, Greater}
use Rattle.algebra.specs.Order.{int_sign}
use Rattle.algebra.specs.OrderedRing.{OrderedRing}
use Rattle.algebra.specs.Fraction.{Fraction, Same}
use Rattle.algebra.specs.Fraction as over
use Rattle.algebra.specs.LowestTerms.{Parts, StandForOne}
use Rattle.algebra.specs.NumberFormulas.{whole_parts, opposite, sum, difference, product, negated, norm, by_conjugate, upright_at, quotient}
use Rattle.algebra.proofs.RingLaws.{neg_one_mul}
use Rattle.algebra.proofs.Solvers.{reads, ring, ring_from, multiple, no_equation}
use Rattle.algebra.proofs.LowestForms.{greater_of_positive}

module _ {A : Type 0} (K : OrderedRing A) where
  pub int_neg : (n : ℤ) → K.int (neg_ℤ n) ≡ K.neg (K.int n)
  int_neg n =
      let e : neg_ℤ n ≡ negsuc 0 *ℤ n = omega (arith, ints) in
      ap K.int e ∙ K.int_mul (negsuc 0) n ∙ neg_one_mul K.ops K.laws (K.int n)

  pub int_sub : (m n : ℤ) → K.int (m -ℤ n) ≡ K.sub (K.int m) (K.int n)
  int_sub m n = K.int_add m (neg_ℤ n) ∙ ap (K.add (K.int m)) (int_neg n) ∙ sym (K.sub_is (K.int m) (K.int n))

  module _ (k : ℕ) (root : A) (root_square : K.mul root root ≡ K.int (pos k)) where
    -- a + b√k
    abbrev pub with_root : A → A → A
    with_root a b = K.add a (K.mul b root)

    abbrev pub value : (p : Parts) → pos 0 <ℤ p.q → Fraction K
    value p h = record { numerator = with_root (K.int p.a) (K.int p.b); denominator = K.int p.q; positive = K.sign_int p.q ∙ greater_of_positive p.q h }

    one_ratio : (a b q c d r : A) → K.mul a r ≡ K.mul c q → K.mul b r ≡ K.mul d q → K.mul (with_root a b) r ≡ K.mul (with_root c d) q
    one_ratio a b q c d r e f =
        ring_from K (a ∷ b ∷ q ∷ c ∷ d ∷ r ∷ root ∷ [])
        (multiple (K.int (pos 1)) (search reads depth 40 fits 50000) (search reads depth 40 fits 50000) (search reads depth 40 fits 50000) e
        (multiple root (search reads depth 40 fits 50000) (search reads depth 40 fits 50000) (search reads depth 40 fits 50000) f no_equation))
        (search reads depth 40 fits 50000) (search reads depth 40 fits 50000) tt

    -- parts that stand for one number have one value
    pub one_value : (p r : Parts) (h : pos 0 <ℤ p.q) (j : pos 0 <ℤ r.q) → StandForOne p r → Same K (value p h) (value r j)
    one_value p r h j e =
        one_ratio (K.int p.a) (K.int p.b) (K.int p.q) (K.int r.a) (K.int r.b) (K.int r.q)
        (sym (K.int_mul p.a r.q) ∙ ap K.int e.rational ∙ K.int_mul r.a p.q)
        (sym (K.int_mul p.b r.q) ∙ ap K.int e.irrational ∙ K.int_mul r.b p.q)

    alone : (a : A) → with_root a (K.int (pos 0)) ≡ a
    alone a = ring K (a ∷ root ∷ []) (search reads depth 40 fits 50000) (search reads depth 40 fits 50000) tt

    pub whole_value : (n : ℤ) (h : pos 0 <ℤ pos 1) → Same K (value (whole_parts n) h) (over.whole K (K.int n))
    whole_value n h = ap (λ t. K.mul t (K.int (pos 1))) (alone (K.int n))

    sum_of : (a b q c d r : A)
        → K.mul (with_root (K.add (K.mul a r) (K.mul c q)) (K.add (K.mul b r) (K.mul d q))) (K.mul q r) ≡ K.mul (K.add (K.mul (with_root a b) r) (K.mul (with_root c d) q)) (K.mul q r)
    sum_of a b q c d r =
        ring K (a ∷ b ∷ q ∷ c ∷ d ∷ r ∷ root ∷ []) (search reads depth 40 fits 50000) (search reads depth 40 fits 50000) tt

    difference_of : (a b q c d r : A)
        → K.mul (with_root (K.sub (K.mul a r) (K.mul c q)) (K.sub (K.mul b r) (K.mul d q))) (K.mul q r) ≡ K.mul (K.sub (K.mul (with_root a b) r) (K.mul (with_root c d) q)) (K.mul q r)
    difference_of a b q c d r =
        ring K (a ∷ b ∷ q ∷ c ∷ d ∷ r ∷ root ∷ []) (search reads depth 40 fits 50000) (search reads depth 40 fits 50000) tt

    product_of : (m a b q c d r : A) → K.mul root root ≡ m
        → K.mul (with_root (K.add (K.mul a c) (K.mul m (K.mul b d))) (K.add (K.mul a d) (K.mul c b))) (K.mul q r) ≡ K.mul (K.mul (with_root a b) (with_root c d)) (K.mul q r)
    product_of m a b q c d r e =
        ring_from K (m ∷ a ∷ b ∷ q ∷ c ∷ d ∷ r ∷ root ∷ [])
        (multiple (K.neg (K.mul (K.mul b d) (K.mul q r)))
        (search reads depth 40 fits 50000) (search reads depth 40 fits 50000) (search reads depth 40 fits 50000) e no_equation)
        (search reads depth 40 fits 50000) (search reads depth 40 fits 50000) tt

    opposite_of : (a b : A) → with_root (K.neg a) (K.neg b) ≡ K.neg (with_root a b)
    opposite_of a b = ring K (a ∷ b ∷ root ∷ []) (search reads depth 40 fits 50000) (search reads depth 40 fits 50000) tt

    pub opposite_value : (p : Parts) (h : pos 0 <ℤ p.q) → Same K (value (opposite p) h) (over.minus K (value p h))
    opposite_value p h = simp int_neg (ap (λ t. K.mul t (K.int p.q)) (opposite_of (K.int p.a) (K.int p.b)))

    -- the quotient by the conjugate, times the divisor
    quotient_of : (m a b q c d r : A) → K.mul root root ≡ m
        → K.mul (K.mul (with_root (K.mul (K.sub (K.mul a c) (K.mul m (K.mul b d))) r) (K.mul (K.sub (K.mul b c) (K.mul a d)) r)) (with_root c d)) q
        ≡ K.mul (with_root a b) (K.mul (K.mul q (K.sub (K.mul c c) (K.mul m (K.mul d d)))) r)
    quotient_of m a b q c d r e =
        ring_from K (m ∷ a ∷ b ∷ q ∷ c ∷ d ∷ r ∷ root ∷ [])
        (multiple (K.mul (K.mul (K.mul q r) d) (K.sub (K.mul b c) (K.mul a d)))
        (search reads depth 40 fits 50000) (search reads depth 40 fits 50000) (search reads depth 40 fits 50000) e no_equation)
        (search reads depth 40 fits 50000) (search reads depth 40 fits 50000) tt

    negated_ratio : (a b q y m z n : A) → K.mul (K.mul (with_root a b) y) m ≡ K.mul z (K.mul q n)
        → K.mul (K.mul (with_root (K.neg a) (K.neg b)) y) m ≡ K.mul z (K.mul (K.neg q) n)
    negated_ratio a b q y m z n e =
        ring_from K (a ∷ b ∷ q ∷ y ∷ m ∷ z ∷ n ∷ root ∷ [])
        (multiple (K.int (negsuc 0)) (search reads depth 40 fits 50000) (search reads depth 40 fits 50000) (search reads depth 40 fits 50000) e no_equation)
        (search reads depth 40 fits 50000) (search reads depth 40 fits 50000) tt

    module _ (p r : Parts) (h : pos 0 <ℤ p.q) (j : pos 0 <ℤ r.q) where
      pub sum_value : (i : pos 0 <ℤ (p.q *ℤ r.q)) → Same K (value (sum p r) i) (over.sum K (value p h) (value r j))
      sum_value i = simp (K.int_add, K.int_mul) (sum_of (K.int p.a) (K.int p.b) (K.int p.q) (K.int r.a) (K.int r.b) (K.int r.q))

      pub difference_value : (i : pos 0 <ℤ (p.q *ℤ r.q)) → Same K (value (difference p r) i) (over.difference K (value p h) (value r j))
      difference_value i = simp (int_sub, K.int_mul) (difference_of (K.int p.a) (K.int p.b) (K.int p.q) (K.int r.a) (K.int r.b) (K.int r.q))

      pub product_value : (i : pos 0 <ℤ (p.q *ℤ r.q)) → Same K (value (product k p r) i) (over.product K (value p h) (value r j))
      product_value i =
          simp (K.int_add, K.int_mul) (product_of (K.int (pos k)) (K.int p.a) (K.int p.b) (K.int p.q) (K.int r.a) (K.int r.b) (K.int r.q) root_square)

      -- f stands for the quotient: times the divisor it is the dividend
      abbrev IsQuotient : Parts → Type 0
      IsQuotient f =
          K.mul (K.mul (with_root (K.int f.a) (K.int f.b)) (with_root (K.int r.a) (K.int r.b))) (K.int p.q)
          ≡ K.mul (with_root (K.int p.a) (K.int p.b)) (K.mul (K.int f.q) (K.int r.q))

      conjugate_quotient : IsQuotient (by_conjugate k p r)
      conjugate_quotient =
          simp (int_sub, K.int_mul) (quotient_of (K.int (pos k)) (K.int p.a) (K.int p.b) (K.int p.q) (K.int r.a) (K.int r.b) (K.int r.q) root_square)

      negated_quotient : (f : Parts) → IsQuotient f → IsQuotient (negated f)
      negated_quotient f e =
          simp int_neg
          (negated_ratio (K.int f.a) (K.int f.b) (K.int f.q) (with_root (K.int r.a) (K.int r.b)) (K.int p.q) (with_root (K.int p.a) (K.int p.b)) (K.int r.q) e)

      upright_quotient : (s : Ordering) (f : Parts) → IsQuotient f → IsQuotient (upright_at s f)
      upright_quotient Less f e = negated_quotient f e
      upright_quotient Equal f e = e
      upright_quotient Greater f e = e

      pub quotient_value : (i : pos 0 <ℤ (quotient k p r).q) → Same K (over.product K (value (quotient k p r) i) (value r j)) (value p h)
      quotient_value i = upright_quotient (int_sign (p.q *ℤ norm k r)) (by_conjugate k p r) conjugate_quotient
