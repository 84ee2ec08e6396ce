-- Regions: the parts of the plane between the pieces of a drawing.
use Rattle.std.specs.Prelude.{◌≡◌, ℕ, List, Contains, IsTrue}
use Rattle.std.specs.Ordering.{is_ge}
use Rattle.std.specs.declared.cmp.Ordering.TheVariants.{Greater}
use Rattle.algebra.specs.OrderedRing.{OrderedRing}
use Rattle.plane.specs.declared.point.Point.{Point}
use Rattle.plane.specs.Points.{IsPoint}
use Rattle.plane.specs.Lines.{side}
use Rattle.plane.specs.Segments.{IsOn, SegmentsMeet, middle}
use Rattle.scaled_plane.specs.declared.drawing.Edge.{Edge}
use Rattle.scaled_plane.specs.Pieces.{point_at}

module _ {A : Type 0} (K : OrderedRing A) where
  -- both coordinates of p are at most n/d in size
  pub record IsInBox (n d : A) (p : Point A) : Type 0 where
    pub west : IsTrue (is_ge (K.sign (K.add (K.mul n p.w) (K.mul d p.x))))
    pub east : IsTrue (is_ge (K.sign (K.sub (K.mul n p.w) (K.mul d p.x))))
    pub south : IsTrue (is_ge (K.sign (K.add (K.mul n p.w) (K.mul d p.y))))
    pub north : IsTrue (is_ge (K.sign (K.sub (K.mul n p.w) (K.mul d p.y))))

module _ {A : Type 0} (K : OrderedRing A) (vertices : List (Point A)) (edges : List Edge) where
  -- p lies on the piece
  abbrev pub IsOnPiece : Edge → Point A → Type 0
  IsOnPiece e p = IsOn K (point_at K vertices e.from) (point_at K vertices e.to) p

  -- p lies on no piece
  abbrev pub IsOff : Point A → Type 0
  IsOff p = (e : Edge) → Contains edges e → ¬ IsOnPiece e p

  -- the closed segment from p to q meets no piece
  abbrev pub IsClear : Point A → Point A → Type 0
  IsClear p q = (e : Edge) → Contains edges e → ¬ SegmentsMeet K p q (point_at K vertices e.from) (point_at K vertices e.to)

-- p and q are points of one region: a broken line from p to q meets no piece
pub data AreInOneRegion {A : Type 0} (K : OrderedRing A) (vertices : List (Point A)) (edges : List Edge) : Point A → Point A → Type 0 where
  straight : {p q : Point A} → IsPoint K p → IsPoint K q → IsClear K vertices edges p q → AreInOneRegion K vertices edges p q
  bent : {p q r : Point A} → IsPoint K p → IsClear K vertices edges p q → AreInOneRegion K vertices edges q r
      → AreInOneRegion K vertices edges p r

module _ {A : Type 0} (K : OrderedRing A) (vertices : List (Point A)) (edges : List Edge) where
  -- some box holds the region of p
  abbrev pub IsBounded : Point A → Type 0
  IsBounded p = (n d : A) × (K.sign d ≡ Greater) × ((q : Point A) → AreInOneRegion K vertices edges p q → IsInBox K n d q)

  -- p lies strictly to the left of the way from a to b, and the segment from p to m meets no piece
  -- before m
  pub record SeesFromLeft (a b m p : Point A) : Type 0 where
    pub point : IsPoint K p
    pub left : side K a b p ≡ Greater
    pub clear : (e : Edge) → Contains edges e → (x : Point A) (on : IsOn K p m x) → K.sign on.from_share ≡ Greater
        → ¬ IsOnPiece K vertices edges e x

  -- p sees the middle of the directed piece from u to v from the left of it
  abbrev pub SeesPiece : ℕ → ℕ → Point A → Type 0
  SeesPiece u v p = SeesFromLeft (point_at K vertices u) (point_at K vertices v)
      (middle K.ops (point_at K vertices u) (point_at K vertices v)) p

  -- the directed piece has the region of q at its left: a point that sees it so is in that region
  abbrev pub HasAtLeft : ℕ → ℕ → Point A → Type 0
  HasAtLeft u v q = (p : Point A) × SeesPiece u v p × AreInOneRegion K vertices edges p q
