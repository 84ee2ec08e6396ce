-- The ranges in which the corners of faces lie.
use Rattle.std.specs.Prelude.{◌⊎◌, ℤ, ◌≤◌, ◌*◌, ◌^◌, IsTrue}
use Rattle.std.specs.Ordering.{is_ge}
use Rattle.algebra.specs.OrderedRing.{OrderedRing}
use Rattle.algebra.specs.Surd.{Surd}
use Rattle.exact_number.specs.Sizes.{whole_size}
use Rattle.plane.specs.declared.point.Point.{Point}
use Rattle.half_planes.specs.declared.extent.Extent.{Extent}

module _ {A : Type 0} (K : OrderedRing A) where
  abbrev pub IsAtLeast : A → A → Type 0
  IsAtLeast x y = IsTrue (is_ge (K.sign (K.sub x y)))

  -- the point lies in both ranges
  pub record Holds (e : Extent A) (v : Point A) : Type 0 where
    pub from_left : IsAtLeast v.x e.left
    pub to_right : IsAtLeast e.right v.x
    pub from_bottom : IsAtLeast v.y e.bottom
    pub to_top : IsAtLeast e.top v.y

  -- in x or in y the ranges share no more than an end
  abbrev pub AreApart : Extent A → Extent A → Type 0
  AreApart e f = IsAtLeast e.left f.right ⊎ IsAtLeast f.left e.right ⊎ IsAtLeast e.bottom f.top ⊎ IsAtLeast f.bottom e.top

-- as large as the coordinates of scaled points at most
pub record IsExtentSize {A : Type 0} (surd : A → Surd ℤ) (e : Extent A) : Type 0 where
  pub left_within : whole_size (surd e.left) ≤ 3 * 2 ^ 22
  pub right_within : whole_size (surd e.right) ≤ 3 * 2 ^ 22
  pub bottom_within : whole_size (surd e.bottom) ≤ 3 * 2 ^ 22
  pub top_within : whole_size (surd e.top) ≤ 3 * 2 ^ 22
