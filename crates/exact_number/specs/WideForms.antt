-- Wide forms: the whole numbers that an operation on numbers (a + b√k) / q forms before lowest terms. They are unbounded
-- here; an operation overflows exactly where one of them is out of range.
use Rattle.std.specs.Prelude.{ℕ, ℤ, pos, negsuc, ◌+ℤ◌, ◌-ℤ◌, ◌*ℤ◌, neg_ℤ, List, [], ◌∷◌, FitsSigned}
use Rattle.std.specs.Int.{w128}
use Prim.Native.Nat.{zero, suc}
use Rattle.algebra.specs.LowestTerms.{Parts}
use Rattle.algebra.specs.NumberFormulas.{sum, difference, product, norm, by_conjugate}
use Rattle.algebra.specs.Surd.{Surd}

-- each is from -2^127 to 2^127 - 1
abbrev pub AllFit : List ℤ → Type 0
AllFit [] = Unit {0}
AllFit (n ∷ ns) = FitsSigned w128 n × AllFit ns

-- more numbers, which are formed only where n is below zero
abbrev pub where_below_zero : ℤ → List ℤ → List ℤ
where_below_zero (pos n) more = []
where_below_zero (negsuc n) more = more

-- ---- rationals a / q

abbrev pub rational_sum : Parts → Parts → List ℤ
rational_sum x y = (x.a *ℤ y.q) ∷ (y.a *ℤ x.q) ∷ (sum x y).a ∷ (x.q *ℤ y.q) ∷ []

abbrev pub rational_difference : Parts → Parts → List ℤ
rational_difference x y = (x.a *ℤ y.q) ∷ (y.a *ℤ x.q) ∷ (difference x y).a ∷ (x.q *ℤ y.q) ∷ []

abbrev pub rational_product : Parts → Parts → List ℤ
rational_product x y = (x.a *ℤ y.a) ∷ (x.q *ℤ y.q) ∷ []

-- the sign of the denominator is moved up
abbrev pub rational_quotient : Parts → Parts → List ℤ
rational_quotient x y =
    (x.a *ℤ y.q) ∷ (x.q *ℤ y.a) ∷ where_below_zero y.a (neg_ℤ (x.a *ℤ y.q) ∷ neg_ℤ (x.q *ℤ y.a) ∷ [])

-- ---- numbers (a + b√k) / q

abbrev pub root_sum : Parts → Parts → List ℤ
root_sum x y =
    (x.a *ℤ y.q) ∷ (y.a *ℤ x.q) ∷ (x.b *ℤ y.q) ∷ (y.b *ℤ x.q) ∷ (sum x y).a ∷ (sum x y).b ∷ (x.q *ℤ y.q) ∷ []

abbrev pub root_difference : Parts → Parts → List ℤ
root_difference x y =
    (x.a *ℤ y.q) ∷ (y.a *ℤ x.q) ∷ (x.b *ℤ y.q) ∷ (y.b *ℤ x.q) ∷ (difference x y).a ∷ (difference x y).b ∷ (x.q *ℤ y.q) ∷ []

module _ (k : ℕ) where
  abbrev pub root_product : Parts → Parts → List ℤ
  root_product x y =
      (x.a *ℤ y.a) ∷ (x.b *ℤ y.b) ∷ (pos k *ℤ (x.b *ℤ y.b)) ∷ (product k x y).a
      ∷ (x.a *ℤ y.b) ∷ (y.a *ℤ x.b) ∷ (product k x y).b ∷ (x.q *ℤ y.q) ∷ []

  -- the norm n of the divisor, the product with its conjugate, and (A q2, B q2, q1 n)
  abbrev pub root_quotient : Parts → Parts → List ℤ
  root_quotient x y =
      (y.a *ℤ y.a) ∷ (y.b *ℤ y.b) ∷ (pos k *ℤ (y.b *ℤ y.b)) ∷ norm k y
      ∷ (x.a *ℤ y.a) ∷ (x.b *ℤ y.b) ∷ (pos k *ℤ (x.b *ℤ y.b)) ∷ (x.a *ℤ y.a -ℤ pos k *ℤ (x.b *ℤ y.b))
      ∷ (x.b *ℤ y.a) ∷ (x.a *ℤ y.b) ∷ (x.b *ℤ y.a -ℤ x.a *ℤ y.b)
      ∷ (by_conjugate k x y).a ∷ (by_conjugate k x y).b ∷ (by_conjugate k x y).q
      ∷ where_below_zero (norm k y) (neg_ℤ (by_conjugate k x y).a ∷ neg_ℤ (by_conjugate k x y).b ∷ neg_ℤ (by_conjugate k x y).q ∷ [])

-- ---- by the root: the rationals are the numbers for k = 1

abbrev pub by_root : ℕ → List ℤ → List ℤ → List ℤ
by_root zero rational root = root
by_root (suc zero) rational root = rational
by_root (suc (suc n)) rational root = root

module _ (k : ℕ) where
  abbrev pub wide_sum : Parts → Parts → List ℤ
  wide_sum x y = by_root k (rational_sum x y) (root_sum x y)

  -- comparing forms these too
  abbrev pub wide_difference : Parts → Parts → List ℤ
  wide_difference x y = by_root k (rational_difference x y) (root_difference x y)

  abbrev pub wide_product : Parts → Parts → List ℤ
  wide_product x y = by_root k (rational_product x y) (root_product k x y)

  abbrev pub wide_quotient : Parts → Parts → List ℤ
  wide_quotient x y = by_root k (rational_quotient x y) (root_quotient k x y)

-- ---- numbers a + b√k with whole a and b: where k is 1 those that are made of b are zero

abbrev pub whole_sum : Surd ℤ → Surd ℤ → List ℤ
whole_sum x y = (x.a +ℤ y.a) ∷ (x.b +ℤ y.b) ∷ []

abbrev pub whole_difference : Surd ℤ → Surd ℤ → List ℤ
whole_difference x y = (x.a -ℤ y.a) ∷ (x.b -ℤ y.b) ∷ []

abbrev pub whole_product : ℕ → Surd ℤ → Surd ℤ → List ℤ
whole_product k x y =
    (x.a *ℤ y.a) ∷ (x.b *ℤ y.b) ∷ (pos k *ℤ (x.b *ℤ y.b)) ∷ (x.a *ℤ y.a +ℤ pos k *ℤ (x.b *ℤ y.b))
    ∷ (x.a *ℤ y.b) ∷ (x.b *ℤ y.a) ∷ (x.a *ℤ y.b +ℤ x.b *ℤ y.a) ∷ []
