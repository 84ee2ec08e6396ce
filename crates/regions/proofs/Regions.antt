-- Regions as the proofs see them, between pieces that are pairs of numbers: what broken lines join that meet no piece.
use Prim.Native.Nat.{ℕ}
use mathlib.Core.Path.{◌≡◌}
use mathlib.Core.List.{List}
use Rattle.std.specs.declared.cmp.Ordering.TheVariants.{Greater}
use Rattle.algebra.specs.OrderedRing.{OrderedRing}
use Rattle.plane.specs.declared.point.Point.{Point}
use Rattle.plane.specs.Points.{IsPoint}
use Rattle.plane.specs.Lines.{side}
use Rattle.plane.specs.Segments.{middle, IsOn, SegmentsMeet}
use Rattle.scaled_plane.specs.Regions.{IsInBox}
use Rattle.regions.proofs.Drawings.{Piece, Among, OnPiece}

module _ {A : Type 0} (K : OrderedRing A) (place : ℕ → Point A) where
  -- p lies on no piece
  abbrev pub IsOff : List Piece → Point A → Type 0
  IsOff ps p = (e : Piece) → Among ps e → ¬ OnPiece K place e p

  -- the segment from p to q meets no piece
  abbrev pub IsClear : List Piece → Point A → Point A → Type 0
  IsClear ps p q = (e : Piece) → Among ps e → ¬ SegmentsMeet K p q (place e.tail) (place e.head)

  abbrev pub middle_of : Piece → Point A
  middle_of d = middle K.ops (place d.tail) (place d.head)

  -- p lies left of the line from a to b, and the segment from p to m meets no piece before m
  pub record LeftAt (ps : List Piece) (a b m p : Point A) : Type 0 where
    pub point : IsPoint K p
    pub left : side K a b p ≡ Greater
    pub clear : (e : Piece) → Among ps e → (x : Point A) (on : IsOn K p m x) → K.sign on.from_share ≡ Greater → ¬ OnPiece K place e x

  -- the region of p is that at the left of the directed piece d
  abbrev pub LeftOf : List Piece → Piece → Point A → Type 0
  LeftOf ps d p = LeftAt ps (place d.tail) (place d.head) (middle_of d) p

-- p and q are points of one region: a broken line from p to q meets no piece
pub data OneRegion {A : Type 0} (K : OrderedRing A) (place : ℕ → Point A) (ps : List Piece) : Point A → Point A → Type 0 where
  straight : {p q : Point A} → IsPoint K p → IsPoint K q → IsClear K place ps p q → OneRegion K place ps p q
  bent : {p q r : Point A} → IsPoint K p → IsClear K place ps p q → OneRegion K place ps q r → OneRegion K place ps p r

module _ {A : Type 0} (K : OrderedRing A) (place : ℕ → Point A) where
  -- some box holds the region of p
  abbrev pub IsBounded : List Piece → Point A → Type 0
  IsBounded ps p = (n : A) × (d : A) × (K.sign d ≡ Greater) × ((q : Point A) → OneRegion K place ps p q → IsInBox K n d q)
