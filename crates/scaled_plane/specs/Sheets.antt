-- Sheets: what keeps vertices, edges and faces from being one, as a table in its order.
use Rattle.std.specs.Prelude.{◌≡◌, ◌⊎◌, ℕ, ◌<◌, List, [], ◌∷◌, ◌++◌, length, Contains, slice_get, Some}
use Rattle.std.specs.Ordering.{ordering_then, nat_cmp}
use Rattle.std.specs.declared.cmp.Ordering.{Ordering}
use Rattle.std.specs.declared.cmp.Ordering.TheVariants.{Less}
use Rattle.fold_base.specs.declared.letter.Letter.TheVariants.{Border, Cut}
use Rattle.algebra.specs.OrderedRing.{OrderedRing}
use Rattle.plane.specs.declared.point.Point.{Point}
use Rattle.scaled_plane.specs.declared.drawing.Edge.{Edge}
use Rattle.scaled_plane.specs.declared.drawing.Face.{Face}
use Rattle.scaled_plane.specs.declared.sheet.SheetFlaw.{SheetFlaw}
use Rattle.scaled_plane.specs.declared.sheet.SheetFlaw.TheVariants.{SameVertex, Loose, NotPlane, Parted, EmptySheet, FaceWrong, FaceMissing, NotConvex, BorderWrong, Pinched, Severed}
use Rattle.plane.specs.Points.{IsSamePoint}
use Rattle.plane.specs.Lines.{side}
use Rattle.plane.specs.Segments.{IsEnd, IsOnBoth}
use Rattle.scaled_plane.specs.Pieces.{point_at}
use Rattle.scaled_plane.specs.WellSet.{HasEnd}
use Rattle.scaled_plane.specs.Walks.{AreJoined, IsFaceWalk, IsOuterWalk, pieces_round}
use Rattle.scaled_plane.specs.Lists.{IsRotation, IsReached}

module _ (faces : List Face) where
  abbrev pub HasFace : ℕ → List ℕ → Type 0
  HasFace f corners = (face : Face) × (slice_get faces f ≡ Some face) × (face.corners ≡ corners)

  -- the face has one of the two directed pieces of the edge
  abbrev pub HasSide : ℕ → Edge → Type 0
  HasSide f e = (corners : List ℕ) × HasFace f corners
      × (Contains (pieces_round corners) (e.from, e.to) ⊎ Contains (pieces_round corners) (e.to, e.from))

  -- the edge has exactly one face
  abbrev pub HasOneFace : Edge → Type 0
  HasOneFace e = (f : ℕ) × HasSide f e × ((g : ℕ) → HasSide g e → g ≡ f)

  -- an edge that is neither B nor C lies between two faces
  abbrev pub AreBeside : List Edge → ℕ → ℕ → Type 0
  AreBeside edges f g = (e : Edge) × Contains edges e × ¬ (e.letter ≡ Border) × ¬ (e.letter ≡ Cut) × HasSide f e × HasSide g e

module _ {A : Type 0} (K : OrderedRing A) (vertices : List (Point A)) where
  abbrev position : ℕ → Point A
  position v = point_at K vertices v

  -- the two edges have a common point that isn't an end of both
  abbrev pub MeetBesideEnds : Edge → Edge → Type 0
  MeetBesideEnds e f = (p : Point A) × IsOnBoth K (position e.from) (position e.to) (position f.from) (position f.to) p
      × ¬ (IsEnd K (position e.from) (position e.to) p × IsEnd K (position f.from) (position f.to) p)

  -- Some corner of the face is its corner c, with b before it and d after it: b is d, so that the
  -- face turns straight back at c, or another corner lies strictly to the right of the line from b
  -- to c.
  pub record IsBentAt (corners before : List ℕ) (c : ℕ) (after : List ℕ) : Type 0 where
    pub is : corners ≡ before ++ c ∷ after
    pub b : ℕ
    pub d : ℕ
    pub others : List ℕ
    pub to_d : List ℕ
    pub ends_in_b : after ++ before ≡ others ++ b ∷ []
    pub begins_with_d : after ++ before ≡ d ∷ to_d
    pub bent : (b ≡ d) ⊎ ((z : ℕ) × Contains corners z × (side K (position b) (position c) (position z) ≡ Less))

  -- the first corner at which the face is bent so is c
  abbrev pub IsFirstBent : List ℕ → ℕ → Type 0
  IsFirstBent corners c = (before after : List ℕ) × IsBentAt corners before c after
      × ((sooner later : List ℕ) (z : ℕ) → length sooner < length before → ¬ IsBentAt corners sooner z later)

  module _ (edges : List Edge) (faces : List Face) where
    -- a line of the table with its ids holds
    abbrev pub HasFlaw : SheetFlaw → Type 0
    HasFlaw (SameVertex low high) = (low < high) × (high < length vertices) × IsSamePoint K (position low) (position high)
    HasFlaw (Loose v) = (v < length vertices) × ((e : Edge) → Contains edges e → ¬ HasEnd e v)
    HasFlaw (NotPlane low high) = (e f : Edge) × (slice_get edges low ≡ Some e) × (slice_get edges high ≡ Some f)
        × (((low ≡ high) × (e.from ≡ e.to)) ⊎ ((low < high) × MeetBesideEnds e f))
    HasFlaw (Parted v) = (v < length vertices) × ¬ AreJoined edges 0 v
    HasFlaw EmptySheet = (corners : List ℕ) → ¬ IsFaceWalk K vertices edges corners
    HasFlaw (FaceWrong f) = (corners : List ℕ) × HasFace faces f corners
        × (((walk : List ℕ) → IsFaceWalk K vertices edges walk → ¬ IsRotation corners walk)
        ⊎ ((g : ℕ) × (g < f) × (earlier : List ℕ) × HasFace faces g earlier × IsRotation corners earlier))
    HasFlaw (FaceMissing u v) = (rest : List ℕ) × IsFaceWalk K vertices edges (u ∷ v ∷ rest)
        × ((f : ℕ) (corners : List ℕ) → HasFace faces f corners → ¬ IsRotation corners (u ∷ v ∷ rest))
    HasFlaw (NotConvex f v) = (corners : List ℕ) × HasFace faces f corners × IsFirstBent corners v
    HasFlaw (BorderWrong n) = (e : Edge) × (slice_get edges n ≡ Some e)
        × (((e.letter ≡ Border) × ¬ HasOneFace faces e) ⊎ (¬ (e.letter ≡ Border) × HasOneFace faces e))
    HasFlaw (Pinched v) = (a b c : List ℕ) × IsOuterWalk K vertices edges (a ++ v ∷ b ++ v ∷ c)
    HasFlaw (Severed f) = (f < length faces) × ¬ IsReached (AreBeside faces edges) 0 f

-- the number of a line of the table, and its ids
abbrev pub line_of : SheetFlaw → ℕ
line_of (SameVertex low high) = 0
line_of (Loose v) = 1
line_of (NotPlane low high) = 2
line_of (Parted v) = 3
line_of EmptySheet = 4
line_of (FaceWrong f) = 5
line_of (FaceMissing u v) = 6
line_of (NotConvex f v) = 7
line_of (BorderWrong e) = 8
line_of (Pinched v) = 9
line_of (Severed f) = 10

abbrev pub first_id : SheetFlaw → ℕ
first_id (SameVertex low high) = low
first_id (Loose v) = v
first_id (NotPlane low high) = low
first_id (Parted v) = v
first_id EmptySheet = 0
first_id (FaceWrong f) = f
first_id (FaceMissing u v) = u
first_id (NotConvex f v) = f
first_id (BorderWrong e) = e
first_id (Pinched v) = v
first_id (Severed f) = f

abbrev pub second_id : SheetFlaw → ℕ
second_id (SameVertex low high) = high
second_id (NotPlane low high) = high
second_id (FaceMissing u v) = v
second_id flaw = 0

-- by line, then by the first id, then by the second
abbrev pub flaw_order : SheetFlaw → SheetFlaw → Ordering
flaw_order x y = ordering_then (nat_cmp (line_of x) (line_of y)) (ordering_then (nat_cmp (first_id x) (first_id y)) (nat_cmp (second_id x) (second_id y)))

module _ {A : Type 0} (K : OrderedRing A) (vertices : List (Point A)) (edges : List Edge) (faces : List Face) where
  -- the first line of the table that holds, with its least ids
  abbrev pub IsFirstFlaw : SheetFlaw → Type 0
  IsFirstFlaw flaw = HasFlaw K vertices edges faces flaw
      × ((other : SheetFlaw) → flaw_order other flaw ≡ Less → ¬ HasFlaw K vertices edges faces other)

  -- a sheet: none of the lines holds
  abbrev pub IsSheet : Type 0
  IsSheet = (flaw : SheetFlaw) → ¬ HasFlaw K vertices edges faces flaw
