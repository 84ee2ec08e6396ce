-- Lists of vectors in which the points of segments are found.
use Rattle.std.specs.Prelude.{◌≡◌, ◌⊎◌, ℕ, ◌<◌, ℤ, List, length, Contains}
use Rattle.std.specs.List.Sorted.{IsStrictlySortedBy}
use Rattle.algebra.specs.OrderedRing.{OrderedRing}
use Rattle.algebra.specs.Surd.{Surd}
use Rattle.algebra.specs.WholeSurds.{SurdNumbers}
use Rattle.plane.specs.declared.point.Point.{Point}
use Rattle.plane.specs.Points.{IsPoint, IsSamePoint, point_order}
use Rattle.plane.specs.Lines.{crossing}
use Rattle.plane.specs.Directions.{AreParallel}
use Rattle.scaled_plane.specs.declared.point.Segment.{Segment}
use Rattle.scaled_plane.specs.Drawn.{IsScaledPoint}
use Rattle.scaled_plane.specs.Pieces.{IsProper}
use Rattle.scaled_plane.specs.Segments.{IsCommon}

module _ {A : Type 0} (K : OrderedRing A) where
  -- the list has a vector of the point
  abbrev pub Has : List (Point A) → Point A → Type 0
  Has points p = (q : Point A) × Contains points q × IsSamePoint K p q

  -- the later list has each vector of the earlier one, and others only of points with P that the
  -- earlier one doesn't have
  pub record Grows (P : Point A → Type 0) (earlier later : List (Point A)) : Type 0 where
    pub kept : (p : Point A) → Contains earlier p → Contains later p
    pub only : (p : Point A) → Contains later p → Contains earlier p ⊎ (P p × ¬ Has earlier p)

  -- p is the vector of an end of the segment
  abbrev pub IsOneEndOf : Segment A → Point A → Type 0
  IsOneEndOf s p = (p ≡ s.from) ⊎ (p ≡ s.to)

  -- p is the vector of an end of one of the segments
  abbrev pub IsEndIn : List (Segment A) → Point A → Type 0
  IsEndIn segments p = (s : Segment A) × Contains segments s × IsOneEndOf s p

  -- both ends of the segment
  abbrev pub HasEnds : List (Point A) → Segment A → Type 0
  HasEnds points s = Has points s.from × Has points s.to

  -- each common point, if the two aren't parallel
  abbrev pub HasCrossing : List (Point A) → Segment A → Segment A → Type 0
  HasCrossing points s t = (p : Point A) → IsPoint K p → ¬ AreParallel K s.from s.to t.from t.to → IsCommon K s t p → Has points p

  -- p is the point in which the two cross
  pub record IsCrossed (s t : Segment A) (p : Point A) : Type 0 where
    pub point : IsPoint K p
    pub across : ¬ AreParallel K s.from s.to t.from t.to
    pub common : IsCommon K s t p
    pub is : p ≡ crossing K s.from s.to t.from t.to

  -- or in which s crosses one of the rest
  abbrev pub IsCrossedBy : Segment A → List (Segment A) → Point A → Type 0
  IsCrossedBy s rest p = (t : Segment A) × Contains rest t × IsCrossed s t p

  -- or in which two of the segments cross
  abbrev pub IsCrossedIn : List (Segment A) → Point A → Type 0
  IsCrossedIn segments p = (s : Segment A) × Contains segments s × IsCrossedBy s segments p

  -- more points than a drawing may have, each once
  pub record IsTooMany (points : List (Point A)) : Type 0 where
    pub more : 16384 < length points
    pub sorted : IsStrictlySortedBy (point_order K) points

-- a proper segment between scaled points
pub record IsUsable {A : Type 0} {k : ℕ} {surd : A → Surd ℤ} (numbers : SurdNumbers k surd) (s : Segment A) : Type 0 where
  pub from : IsScaledPoint numbers s.from
  pub to : IsScaledPoint numbers s.to
  pub proper : IsProper numbers.ring s
