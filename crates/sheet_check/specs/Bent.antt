-- Corners at which a face isn't convex, by their places.
use Rattle.std.specs.Prelude.{◌≡◌, ◌⊎◌, ℕ, ◌+◌, ◌-◌, ◌<◌, ◌≤◌, ◌++◌, List, Contains, length, take, drop, slice_index}
use Rattle.std.specs.declared.cmp.Ordering.TheVariants.{Less}
use Rattle.algebra.specs.OrderedRing.{OrderedRing}
use Rattle.plane.specs.declared.point.Point.{Point}
use Rattle.plane.specs.Lines.{side}
use Rattle.scaled_plane.specs.declared.drawing.Face.{Face}
use Rattle.scaled_plane.specs.Pieces.{point_at}
use Rattle.flat_fold.specs.Faces.{corners_at}

-- the other corners, from the one after this place round to the one before it
abbrev pub others_at : List ℕ → ℕ → List ℕ
others_at corners k = drop (k + 1) corners ++ take k corners

abbrev pub corner_after : List ℕ → ℕ → ℕ
corner_after corners k = slice_index (others_at corners k) 0

abbrev pub corner_before : List ℕ → ℕ → ℕ
corner_before corners k = slice_index (others_at corners k) (length corners - 2)

module _ {A : Type 0} (K : OrderedRing A) (vertices : List (Point A)) where
  -- some corner lies strictly to the right of the line from b to c
  abbrev pub HasRight : List ℕ → ℕ → ℕ → Type 0
  HasRight corners b c = (z : ℕ) × Contains corners z × (side K (point_at K vertices b) (point_at K vertices c) (point_at K vertices z) ≡ Less)

  -- at the corner at this place the face turns straight back, or a corner lies strictly to the right of the line to it
  pub record IsBentPlace (corners : List ℕ) (k : ℕ) : Type 0 where
    pub in_range : k < length corners
    pub two : 2 ≤ length corners
    pub bent : (corner_before corners k ≡ corner_after corners k) ⊎ HasRight corners (corner_before corners k) (slice_index corners k)

  -- and the face is bent at no place before
  pub record IsFirstBentPlace (corners : List ℕ) (k : ℕ) : Type 0 where
    pub bent : IsBentPlace corners k
    pub before : (j : ℕ) → j < k → ¬ IsBentPlace corners j

  -- the face is the first that is bent, first at its corner c
  pub record IsFirstBentFace (faces : List Face) (f c : ℕ) : Type 0 where
    pub in_range : f < length faces
    pub place : ℕ
    pub bent : IsFirstBentPlace (corners_at faces f) place
    pub is : slice_index (corners_at faces f) place ≡ c
    pub before : (g : ℕ) → g < f → (k : ℕ) → ¬ IsBentPlace (corners_at faces g) k
