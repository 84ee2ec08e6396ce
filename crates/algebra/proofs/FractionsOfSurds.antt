-- Each fraction of two numbers a + b√k, with a denominator that is not zero, is exactly one number in lowest terms.
use Prim.Native.Nat.{ℕ}
use mathlib.Core.Path.{◌≡◌, ap}
use mathlib.Core.List.{[], ◌∷◌}
use native.Mathlib.Omega.{arith}
use native.Mathlib.Nat.{dvd-one}
use borrow.Author.Differences.{ints}
use lib.IntN.{ℤ, pos, negsuc, ◌+ℤ◌, ◌-ℤ◌, ◌*ℤ◌, neg_ℤ}
use lib.Signed.{◌<ℤ◌}
use Rattle.std.specs.declared.cmp.Ordering.{Ordering}
use Rattle.std.specs.declared.cmp.Ordering.TheVariants.{Less, Equal, Greater}
use Rattle.algebra.specs.Order.{int_sign}
use Rattle.algebra.specs.Integers.{int_ops}
use Rattle.algebra.specs.Surd.{Surd, surd_mul}
use Rattle.algebra.specs.LowestTerms.{Parts, IsLowest, StandForOne, IsNumber}
use Rattle.algebra.specs.NumberField.{IsFraction}
use Rattle.algebra.specs.NumberFormulas.{by_conjugate, upright_at, quotient, parts_sign}
use Rattle.algebra.proofs.Integers.{integers}
use Rattle.algebra.proofs.Solvers.{reads_integers, ring, ring_from, multiple, no_equation}
use Rattle.algebra.proofs.SurdRing.{surd_path}
use Rattle.algebra.proofs.Fractions.{cancel_positive}
use Rattle.algebra.proofs.LowestForms.{reduced, reduced_is, greater_of_positive}
use Rattle.algebra.proofs.LowestByGcd.{reduced_once}
use Rattle.algebra.proofs.NumberParts.{left_upright, quotient_positive, quotient_rational, reduced_rational}

-- ---- the equations of the two parts, where (a + b√k) (c + d√k) = (m + n√k) q

abbrev First : (k a b q m n c d : ℤ) → Type 0
First k a b q m n c d = a *ℤ c +ℤ k *ℤ (b *ℤ d) ≡ m *ℤ q +ℤ k *ℤ (n *ℤ pos 0)

abbrev Second : (a b q m n c d : ℤ) → Type 0
Second a b q m n c d = a *ℤ d +ℤ b *ℤ c ≡ m *ℤ pos 0 +ℤ n *ℤ q

conjugate_first : (k m n c d : ℤ) → First k ((m *ℤ c -ℤ k *ℤ (n *ℤ d)) *ℤ pos 1) ((n *ℤ c -ℤ m *ℤ d) *ℤ pos 1) (pos 1 *ℤ (c *ℤ c -ℤ k *ℤ (d *ℤ d))) m n c d
conjugate_first k m n c d = ring integers (k ∷ m ∷ n ∷ c ∷ d ∷ []) (search reads_integers depth 40 fits 50000) (search reads_integers depth 40 fits 50000) tt

conjugate_second : (k m n c d : ℤ) → Second ((m *ℤ c -ℤ k *ℤ (n *ℤ d)) *ℤ pos 1) ((n *ℤ c -ℤ m *ℤ d) *ℤ pos 1) (pos 1 *ℤ (c *ℤ c -ℤ k *ℤ (d *ℤ d))) m n c d
conjugate_second k m n c d = ring integers (k ∷ m ∷ n ∷ c ∷ d ∷ []) (search reads_integers depth 40 fits 50000) (search reads_integers depth 40 fits 50000) tt

negated_first : (k a b q m n c d : ℤ) → First k a b q m n c d → First k (neg_ℤ a) (neg_ℤ b) (neg_ℤ q) m n c d
negated_first k a b q m n c d e =
    ring_from integers (k ∷ a ∷ b ∷ q ∷ m ∷ n ∷ c ∷ d ∷ [])
    (multiple (negsuc 0) (search reads_integers depth 40 fits 50000) (search reads_integers depth 40 fits 50000) (search reads_integers depth 40 fits 50000) e no_equation)
    (search reads_integers depth 40 fits 50000) (search reads_integers depth 40 fits 50000) tt

negated_second : (a b q m n c d : ℤ) → Second a b q m n c d → Second (neg_ℤ a) (neg_ℤ b) (neg_ℤ q) m n c d
negated_second a b q m n c d e =
    ring_from integers (a ∷ b ∷ q ∷ m ∷ n ∷ c ∷ d ∷ [])
    (multiple (negsuc 0) (search reads_integers depth 40 fits 50000) (search reads_integers depth 40 fits 50000) (search reads_integers depth 40 fits 50000) e no_equation)
    (search reads_integers depth 40 fits 50000) (search reads_integers depth 40 fits 50000) tt

-- from one form a, b, q to another form x, y, z of the number
other_first : (k a b q x y z m n c d : ℤ) → pos 0 <ℤ q → a *ℤ z ≡ x *ℤ q → b *ℤ z ≡ y *ℤ q → First k a b q m n c d → First k x y z m n c d
other_first k a b q x y z m n c d h e f g =
    cancel_positive integers q (x *ℤ c +ℤ k *ℤ (y *ℤ d)) (m *ℤ z +ℤ k *ℤ (n *ℤ pos 0)) (greater_of_positive q h)
    (ring_from integers (k ∷ a ∷ b ∷ q ∷ x ∷ y ∷ z ∷ m ∷ n ∷ c ∷ d ∷ [])
    (multiple (neg_ℤ c) (search reads_integers depth 40 fits 50000) (search reads_integers depth 40 fits 50000) (search reads_integers depth 40 fits 50000) e
    (multiple (neg_ℤ (k *ℤ d)) (search reads_integers depth 40 fits 50000) (search reads_integers depth 40 fits 50000) (search reads_integers depth 40 fits 50000) f
    (multiple z (search reads_integers depth 40 fits 50000) (search reads_integers depth 40 fits 50000) (search reads_integers depth 40 fits 50000) g no_equation)))
    (search reads_integers depth 40 fits 50000) (search reads_integers depth 40 fits 50000) tt)

other_second : (a b q x y z m n c d : ℤ) → pos 0 <ℤ q → a *ℤ z ≡ x *ℤ q → b *ℤ z ≡ y *ℤ q → Second a b q m n c d → Second x y z m n c d
other_second a b q x y z m n c d h e f g =
    cancel_positive integers q (x *ℤ d +ℤ y *ℤ c) (m *ℤ pos 0 +ℤ n *ℤ z) (greater_of_positive q h)
    (ring_from integers (a ∷ b ∷ q ∷ x ∷ y ∷ z ∷ m ∷ n ∷ c ∷ d ∷ [])
    (multiple (neg_ℤ d) (search reads_integers depth 40 fits 50000) (search reads_integers depth 40 fits 50000) (search reads_integers depth 40 fits 50000) e
    (multiple (neg_ℤ c) (search reads_integers depth 40 fits 50000) (search reads_integers depth 40 fits 50000) (search reads_integers depth 40 fits 50000) f
    (multiple z (search reads_integers depth 40 fits 50000) (search reads_integers depth 40 fits 50000) (search reads_integers depth 40 fits 50000) g no_equation)))
    (search reads_integers depth 40 fits 50000) (search reads_integers depth 40 fits 50000) tt)

-- from a form x, y, z of the number to the one by the conjugate
conjugate_ratio : (k x y z m n c d : ℤ) → First k x y z m n c d → Second x y z m n c d
    → ((m *ℤ c -ℤ k *ℤ (n *ℤ d)) *ℤ pos 1) *ℤ z ≡ x *ℤ (pos 1 *ℤ (c *ℤ c -ℤ k *ℤ (d *ℤ d)))
conjugate_ratio k x y z m n c d e f =
    ring_from integers (k ∷ x ∷ y ∷ z ∷ m ∷ n ∷ c ∷ d ∷ [])
    (multiple (neg_ℤ c) (search reads_integers depth 40 fits 50000) (search reads_integers depth 40 fits 50000) (search reads_integers depth 40 fits 50000) e
    (multiple (k *ℤ d) (search reads_integers depth 40 fits 50000) (search reads_integers depth 40 fits 50000) (search reads_integers depth 40 fits 50000) f no_equation))
    (search reads_integers depth 40 fits 50000) (search reads_integers depth 40 fits 50000) tt

conjugate_root_ratio : (k x y z m n c d : ℤ) → First k x y z m n c d → Second x y z m n c d
    → ((n *ℤ c -ℤ m *ℤ d) *ℤ pos 1) *ℤ z ≡ y *ℤ (pos 1 *ℤ (c *ℤ c -ℤ k *ℤ (d *ℤ d)))
conjugate_root_ratio k x y z m n c d e f =
    ring_from integers (k ∷ x ∷ y ∷ z ∷ m ∷ n ∷ c ∷ d ∷ [])
    (multiple d (search reads_integers depth 40 fits 50000) (search reads_integers depth 40 fits 50000) (search reads_integers depth 40 fits 50000) e
    (multiple (neg_ℤ c) (search reads_integers depth 40 fits 50000) (search reads_integers depth 40 fits 50000) (search reads_integers depth 40 fits 50000) f no_equation))
    (search reads_integers depth 40 fits 50000) (search reads_integers depth 40 fits 50000) tt

module _ (k : ℕ) (n d : Surd ℤ) where
  abbrev parts_of : Surd ℤ → Parts
  parts_of x = record { a = x.a; b = x.b; q = pos 1 }

  parts_number : (x : Surd ℤ) → x.b ≡ pos 0 → IsNumber k (parts_of x)
  parts_number x z = record { lowest = record { positive = omega (arith, ints); coprime = λ e a b q. dvd-one.0 q }; rational = λ e. z }

  abbrev form : Parts
  form = quotient k (parts_of n) (parts_of d)

  is_fraction : (p : Parts) → First (pos k) p.a p.b p.q n.a n.b d.a d.b → Second p.a p.b p.q n.a n.b d.a d.b → IsFraction k n d p
  is_fraction p e f =
      surd_path (surd_mul int_ops (pos k) (record { a = p.a; b = p.b }) d) (surd_mul int_ops (pos k) n (record { a = p.q; b = pos 0 })) e f

  upright_first : (s : Ordering) (p : Parts) → First (pos k) p.a p.b p.q n.a n.b d.a d.b
      → let r = upright_at s p in First (pos k) r.a r.b r.q n.a n.b d.a d.b
  upright_first Less p e = negated_first (pos k) p.a p.b p.q n.a n.b d.a d.b e
  upright_first Equal p e = e
  upright_first Greater p e = e

  upright_second : (s : Ordering) (p : Parts) → Second p.a p.b p.q n.a n.b d.a d.b
      → let r = upright_at s p in Second r.a r.b r.q n.a n.b d.a d.b
  upright_second Less p e = negated_second p.a p.b p.q n.a n.b d.a d.b e
  upright_second Equal p e = e
  upright_second Greater p e = e

  module _ (not_zero : ¬ (parts_sign k (parts_of d) ≡ Equal)) where
    above : pos 0 <ℤ form.q
    above = quotient_positive k (parts_of n) (parts_of d) (omega (arith, ints)) not_zero

    -- what stands for the form stands for the fraction
    of_form : (r : Parts) → StandForOne form r → IsFraction k n d r
    of_form r e =
        let f : Parts = by_conjugate k (parts_of n) (parts_of d) in
        is_fraction r
        (other_first (pos k) form.a form.b form.q r.a r.b r.q n.a n.b d.a d.b above e.rational e.irrational
        (upright_first (int_sign f.q) f (conjugate_first (pos k) n.a n.b d.a d.b)))
        (other_second form.a form.b form.q r.a r.b r.q n.a n.b d.a d.b above e.rational e.irrational
        (upright_second (int_sign f.q) f (conjugate_second (pos k) n.a n.b d.a d.b)))

    -- and the other way round
    to_form : (r : Parts) → IsFraction k n d r → StandForOne form r
    to_form r h =
        let f : Parts = by_conjugate k (parts_of n) (parts_of d) in
        let e : First (pos k) r.a r.b r.q n.a n.b d.a d.b = ap (λ (x : Surd ℤ). x.a) h in
        let g : Second r.a r.b r.q n.a n.b d.a d.b = ap (λ (x : Surd ℤ). x.b) h in
        left_upright (int_sign f.q) f r (record {
          rational = conjugate_ratio (pos k) r.a r.b r.q n.a n.b d.a d.b e g;
          irrational = conjugate_root_ratio (pos k) r.a r.b r.q n.a n.b d.a d.b e g;
        })

    pub fraction_lowest : (r : Parts) × (IsLowest r × IsFraction k n d r)
    fraction_lowest = (reduced form, ((reduced_is form above).lowest, of_form (reduced form) (reduced_is form above).same))

    pub fraction_once : (r s : Parts) → IsLowest r → IsLowest s → IsFraction k n d r → IsFraction k n d s → r ≡ s
    fraction_once r s h j e f =
        reduced_once form r s above (record { lowest = h; same = to_form r e }) (record { lowest = j; same = to_form s f })

    pub fraction_rational : (r : Parts) → k ≡ 1 → n.b ≡ pos 0 → d.b ≡ pos 0 → IsFraction k n d r → r.b ≡ pos 0
    fraction_rational r e f g h =
        reduced_rational form r above (to_form r h) (quotient_rational k (parts_of n) (parts_of d) (parts_number n f) (parts_number d g) e)
