-- Drawn points by exact coordinates: what they are divided by a common denominator.
use Rattle.std.specs.Prelude.{◌≡◌, ◌⊎◌, ℕ, ℤ, pos, ◌≤◌, ◌^◌, ◌+ℤ◌, ◌*ℤ◌, unsigned_abs}
use Rattle.algebra.specs.LowestTerms.{Parts, IsLowest}
use Rattle.algebra.specs.NumberField.{IsFraction}
use Rattle.algebra.specs.Surd.{Surd}
use Rattle.exact_number.specs.Sizes.{whole_size}
use Rattle.plane.specs.declared.point.Point.{Point}
use Rattle.scaled_plane.specs.declared.point.Pair.{Pair}

-- y is the conjugate a - b√k of x, or the opposite of that: the product of the two has no root in
-- it
pub record IsConjugate (x y : Surd ℤ) : Type 0 where
  pub rational : x.a *ℤ y.b +ℤ x.b *ℤ y.a ≡ pos 0
  pub same_size : whole_size y ≡ whole_size x

-- r is x / (w common) in lowest terms, for numbers x and w over √k
pub record IsQuotient (k : ℕ) (x w : Surd ℤ) (common : ℤ) (r : Parts) : Type 0 where
  pub lowest : IsLowest r
  pub fraction : IsFraction k x (record { a = w.a *ℤ common; b = w.b *ℤ common }) r

-- no part is larger in size than 2^92
pub record IsNarrow (r : Parts) : Type 0 where
  pub a_within : unsigned_abs r.a ≤ 2 ^ 92
  pub b_within : unsigned_abs r.b ≤ 2 ^ 92
  pub q_within : unsigned_abs r.q ≤ 2 ^ 92

module _ {W : Type 0} (k : ℕ) (surd : W → Surd ℤ) (p : Point W) (common : ℤ) where
  -- some coordinate of the point over the common denominator has a part, in lowest terms, that is
  -- larger in size than 2^92
  abbrev pub IsTooWideExact : Type 0
  IsTooWideExact = (r : Parts) × (IsQuotient k (surd p.x) (surd p.w) common r ⊎ IsQuotient k (surd p.y) (surd p.w) common r) × ¬ IsNarrow r

  -- the pair is the point over the common denominator
  pub record IsExactPoint {N : Type 0} (parts : N → Parts) (c : Pair N) : Type 0 where
    pub x : IsQuotient k (surd p.x) (surd p.w) common (parts c.x)
    pub y : IsQuotient k (surd p.y) (surd p.w) common (parts c.y)
    pub x_narrow : IsNarrow (parts c.x)
    pub y_narrow : IsNarrow (parts c.y)
