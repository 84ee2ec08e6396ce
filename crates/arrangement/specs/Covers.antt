-- The pieces of segments as pairs of neighbours among the vertices on them, and what covers them.
use Rattle.std.specs.Prelude.{◌≡◌, ◌⊎◌, ◌↔◌, ℕ, ◌<◌, ◌≤◌, List, [], ◌∷◌, ◌++◌, length, Contains, All, IsTrue, Option, IsSomeAnd, MatchOption}
use Rattle.std.specs.Ordering.{nat_cmp, ordering_then}
use Rattle.std.specs.declared.cmp.Ordering.{Ordering}
use Rattle.std.specs.BTreeMap.{BTreeMap, get}
use Rattle.fold_base.specs.declared.letter.Letter.{Letter}
use Rattle.algebra.specs.OrderedRing.{OrderedRing}
use Rattle.plane.specs.declared.point.Point.{Point}
use Rattle.plane.specs.Points.{IsSamePoint}
use Rattle.plane.specs.Segments.{IsOn}
use Rattle.scaled_plane.specs.declared.drawing.Edge.{Edge}
use Rattle.scaled_plane.specs.declared.point.Segment.{Segment}
use Rattle.scaled_plane.specs.Pieces.{IsMerged, IsProper, point_at}
use Rattle.arrangement.specs.declared.covers.Cover.{Cover}
use Rattle.arrangement.specs.Letters.{has}

-- by the first vertex, then by the second
abbrev pub piece_order : ℕ × ℕ → ℕ × ℕ → Ordering
piece_order p q = ordering_then (nat_cmp p.0 q.0) (nat_cmp p.1 q.1)

-- what covers a piece after one segment more, with this letter and these ends
pub record Adds (letter : Letter) (ends : ℕ × ℕ) (known : Option Cover) (cover : Cover) : Type 0 where
  pub letters : (l : Letter) → IsTrue (has cover.letters l) ↔ (IsSomeAnd known (λ c. IsTrue (has c.letters l)) ⊎ (l ≡ letter))
  pub line_is : MatchOption known (cover.line ≡ ends) (λ c. cover.line ≡ c.line)

-- the edge from the first vertex to the second with the letter that is left of those of the cover,
-- if it has any
pub record IsEdgeOf (entry : (ℕ × ℕ) × Cover) (e : Edge) : Type 0 where
  pub from_is : e.from ≡ entry.0.0
  pub to_is : e.to ≡ entry.0.1
  pub letter_is : (l : Letter) → IsTrue (has entry.1.letters l) → IsMerged (λ l. IsTrue (has entry.1.letters l)) e.letter

module _ {A : Type 0} (K : OrderedRing A) (vertices : List (Point A)) where
  -- the point stands at the place v
  pub record IsPlaceOf (p : Point A) (v : ℕ) : Type 0 where
    pub in_range : v < length vertices
    pub same : IsSamePoint K p (point_at K vertices v)

  -- the vertex lies on the segment
  abbrev pub LiesOn : Segment A → ℕ → Type 0
  LiesOn s v = IsOn K s.from s.to (point_at K vertices v)

  -- the segment is proper, and goes along from a to b with no vertex between
  pub record JoinsNext (s : Segment A) (a b : ℕ) : Type 0 where
    pub proper : IsProper K s
    pub in_order : a < b
    pub in_range : b < length vertices
    pub first : LiesOn s a
    pub second : LiesOn s b
    pub nothing_between : (v : ℕ) → a < v → v < b → ¬ LiesOn s v

  -- the two vertices, the lesser first, are the ends of the segment
  pub record HasEndsAt (s : Segment A) (ends : ℕ × ℕ) : Type 0 where
    pub in_order : ends.0 < ends.1
    pub in_range : ends.1 < length vertices
    pub is : (IsSamePoint K s.from (point_at K vertices ends.0) × IsSamePoint K s.to (point_at K vertices ends.1))
        ⊎ (IsSamePoint K s.from (point_at K vertices ends.1) × IsSamePoint K s.to (point_at K vertices ends.0))

  -- of the vertices before v, this is the last that lies on the segment
  pub record IsLastOn (s : Segment A) (v last : ℕ) : Type 0 where
    pub before : last < v
    pub on : LiesOn s last
    pub none_since : (u : ℕ) → last < u → u < v → ¬ LiesOn s u

  -- the first of the segments that joins a and b, with its ends
  pub record IsFirstJoining (segments : List (Segment A)) (a b : ℕ) (ends : ℕ × ℕ) : Type 0 where
    pub before : List (Segment A)
    pub after : List (Segment A)
    pub cover : Segment A
    pub is : segments ≡ before ++ cover ∷ after
    pub joins : JoinsNext cover a b
    pub none_before : All (λ s. ¬ JoinsNext s a b) before
    pub ends_at : HasEndsAt cover ends

  -- the letters of the segments that join a and b, and the ends of the first
  pub record IsCover (segments : List (Segment A)) (a b : ℕ) (cover : Cover) : Type 0 where
    pub letters : (l : Letter) → IsTrue (has cover.letters l) ↔ ((s : Segment A) × Contains segments s × JoinsNext s a b × (s.letter ≡ l))
    pub line_is : IsFirstJoining segments a b cover.line

  -- what is known of a and b is what covers them, and nothing if no segment joins them
  abbrev pub IsKnown : List (Segment A) → ℕ → ℕ → Option Cover → Type 0
  IsKnown segments a b known = MatchOption known ((s : Segment A) → Contains segments s → ¬ JoinsNext s a b) (IsCover segments a b)

  -- the map has what covers each two vertices
  abbrev pub HasCovers : List (Segment A) → BTreeMap (ℕ × ℕ) Cover → Type 0
  HasCovers segments covers = (a b : ℕ) → IsKnown segments a b (get piece_order covers (a, b))

  -- the same with one segment more, as far as the second vertex stands before v
  abbrev pub HasCoversBefore : List (Segment A) → Segment A → ℕ → BTreeMap (ℕ × ℕ) Cover → Type 0
  HasCoversBefore segments s v covers = (a b : ℕ)
      → (b < v → IsKnown (segments ++ s ∷ []) a b (get piece_order covers (a, b))) × (v ≤ b → IsKnown segments a b (get piece_order covers (a, b)))
