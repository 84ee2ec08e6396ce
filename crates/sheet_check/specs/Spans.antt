-- Edges as segments between the vertices, and common points of two that aren't ends of both.
use Rattle.std.specs.Prelude.{◌≡◌, ◌≢◌, ◌⊎◌, ℕ, ℤ, ◌<◌, ◌≤◌, List, [], ◌∷◌, ◌++◌, suc, zero, Contains, Option, Some, IsSomeAnd, slice_get, slice_index_or, length, min, max}
use Rattle.std.specs.declared.cmp.Ordering.{Ordering}
use Rattle.std.specs.declared.cmp.Ordering.TheVariants.{Less, Greater}
use Rattle.algebra.specs.OrderedRing.{OrderedRing}
use Rattle.algebra.specs.Surd.{Surd}
use Rattle.algebra.specs.WholeSurds.{SurdNumbers}
use Rattle.plane.specs.declared.point.Point.{Point}
use Rattle.plane.specs.Segments.{IsEnd, IsOnBoth}
use Rattle.scaled_plane.specs.declared.drawing.Edge.{Edge}
use Rattle.scaled_plane.specs.declared.point.Segment.{Segment}
use Rattle.scaled_plane.specs.declared.sheet.SheetFlaw.TheVariants.{NotPlane}
use Rattle.scaled_plane.specs.Counts.{left_end, right_end}
use Rattle.scaled_plane.specs.Drawn.{IsScaledSegment}
use Rattle.scaled_plane.specs.Pieces.{point_at}
use Rattle.scaled_plane.specs.Sheets.{HasFlaw}

-- the ends of the edges are among so many vertices
abbrev pub AreInRange : ℕ → List Edge → Type 0
AreInRange count edges = (e : Edge) → Contains edges e → (e.from < count) × (e.to < count)

-- the ends of the edge are one vertex
abbrev pub IsFlat : List Edge → ℕ → Type 0
IsFlat edges n = (e : Edge) × (slice_get edges n ≡ Some e) × (e.from ≡ e.to)

-- the numbers from 0 on, so many
abbrev pub up_to : ℕ → List ℕ
up_to zero = []
up_to (suc n) = up_to n ++ n ∷ []

-- the two segments have a common point that isn't an end of both
abbrev pub MeetBeside : {A : Type 0} → OrderedRing A → Segment A → Segment A → Type 0
MeetBeside {A} K s t = (p : Point A) × IsOnBoth K s.from s.to t.from t.to p × ¬ (IsEnd K s.from s.to p × IsEnd K t.from t.to p)

-- both orders are `Less`, or both are `Greater`
abbrev pub AreOneWay : Ordering → Ordering → Type 0
AreOneWay o p = ((o ≡ Less) × (p ≡ Less)) ⊎ ((o ≡ Greater) × (p ≡ Greater))

-- the pair of numbers comes before this one, by the first and then by the second
abbrev pub IsBefore : ℕ × ℕ → ℕ × ℕ → Type 0
IsBefore p q = (p.0 < q.0) ⊎ ((p.0 ≡ q.0) × (p.1 < q.1))

-- a pair was found, and this one isn't before it
abbrev pub IsReachedBy : Option (ℕ × ℕ) → ℕ × ℕ → Type 0
IsReachedBy found p = IsSomeAnd found (λ q. (q.0 < p.0) ⊎ ((q.0 ≡ p.0) × (q.1 ≤ p.1)))

-- the segment has these ends from left to right
pub record IsSpan {A : Type 0} {k : ℕ} {surd : A → Surd ℤ} (numbers : SurdNumbers k surd) (segment : Segment A) (left right : Point A) : Type 0 where
  pub scaled : IsScaledSegment numbers segment
  pub left_is : left ≡ left_end numbers.ring segment
  pub right_is : right ≡ right_end numbers.ring segment

module _ {A : Type 0} (K : OrderedRing A) (vertices : List (Point A)) (edges : List Edge) where
  -- the segment is that of the edge with this number
  pub record IsOfEdge (segment : Segment A) (n : ℕ) : Type 0 where
    pub edge : Edge
    pub is : slice_get edges n ≡ Some edge
    pub from_is : segment.from ≡ point_at K vertices edge.from
    pub to_is : segment.to ≡ point_at K vertices edge.to

  -- these two edges keep the drawing from being plane, or this one does by its equal ends
  abbrev pub IsNotPlane : ℕ → ℕ → Type 0
  IsNotPlane low high = HasFlaw K vertices edges [] (NotPlane low high)

-- ---- spans, as segments with the numbers of their edges

-- the answer is the pair found before, or another with a property
abbrev pub ComesFrom : Option (ℕ × ℕ) → (ℕ × ℕ → Type 0) → Option (ℕ × ℕ) → Type 0
ComesFrom before P found = (found ≡ before) ⊎ ((p : ℕ × ℕ) × (found ≡ Some p) × P p)

-- the numbers of two edges, the lesser first
abbrev pub pair_of : {V : Type 0} → (V → ℕ) → V → V → ℕ × ℕ
pair_of edge s t = (min (edge s) (edge t), max (edge s) (edge t))

module _ {A : Type 0} (K : OrderedRing A) {V : Type 0} (segment : V → Segment A) (edge : V → ℕ) where
  -- where the two meet beside their ends, a pair was found that isn't behind theirs
  abbrev pub AreTested : Option (ℕ × ℕ) → V → V → Type 0
  AreTested found s t = MeetBeside K (segment s) (segment t) → IsReachedBy found (pair_of edge s t)

  -- the pair is that of s and one of the rest, which meet beside their ends
  abbrev pub MeetsOne : V → List V → ℕ × ℕ → Type 0
  MeetsOne s rest p = (t : V) × Contains rest t × (p ≡ pair_of edge s t) × MeetBeside K (segment s) (segment t)

  -- the pair is that of two of them, which meet beside their ends
  abbrev pub MeetTwo : List V → ℕ × ℕ → Type 0
  MeetTwo spans p = (s t : V) × Contains spans s × Contains spans t × (edge s ≢ edge t) × (p ≡ pair_of edge s t) × MeetBeside K (segment s) (segment t)

  -- each of the first spans was tested with all that come after it
  abbrev pub AreTestedBefore : ℕ → Option (ℕ × ℕ) → List V → Type 0
  AreTestedBefore place found spans = (i j : ℕ) (d : V) → i < place → i < j → j < length spans → AreTested found (slice_index_or spans i d) (slice_index_or spans j d)
