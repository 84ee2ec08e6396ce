-- Vertices that stand for one point.
use Rattle.std.specs.Prelude.{ℕ, ◌<◌, ◌≤◌, List, length, MatchOption, Option}
use Rattle.algebra.specs.OrderedRing.{OrderedRing}
use Rattle.plane.specs.declared.point.Point.{Point}
use Rattle.plane.specs.Points.{IsSamePoint}
use Rattle.scaled_plane.specs.Pieces.{point_at}
use Rattle.arrangement.specs.Found.{Has}

module _ {A : Type 0} (K : OrderedRing A) (vertices : List (Point A)) where
  -- the later vertex has the coordinates of the earlier one
  abbrev pub AreSame : ℕ → ℕ → Type 0
  AreSame low high = (low < high) × (high < length vertices) × IsSamePoint K (point_at K vertices low) (point_at K vertices high)

  -- a later vertex has the coordinates of this one
  abbrev pub IsRepeated : ℕ → Type 0
  IsRepeated low = (high : ℕ) × AreSame low high

  -- the points are those of the vertices from a place on
  pub record HasFrom (place : ℕ) (points : List (Point A)) : Type 0 where
    pub every : (u : ℕ) → place ≤ u → u < length vertices → Has K points (point_at K vertices u)
    pub only : (q : Point A) → Has K points q → (u : ℕ) × (place ≤ u) × (u < length vertices) × IsSamePoint K q (point_at K vertices u)

  -- the first vertex from a place on that is repeated
  abbrev pub IsFirstFrom : ℕ → Option ℕ → Type 0
  IsFirstFrom place found = MatchOption found
      ((u : ℕ) → place ≤ u → ¬ IsRepeated u)
      (λ first. (place ≤ first) × IsRepeated first × ((u : ℕ) → place ≤ u → u < first → ¬ IsRepeated u))
