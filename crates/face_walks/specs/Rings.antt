-- Rings: the half-edges that go out of a vertex, in clockwise order.
use Rattle.std.specs.Prelude.{◌≡◌, ℕ, ◌<◌, ◌≤◌, List, [], length, slice_index_or}
use Rattle.algebra.specs.OrderedRing.{OrderedRing}
use Rattle.plane.specs.Directions.{Differ, IsClockwise}
use Rattle.half_edges.specs.declared.arena.HalfId.{HalfId}
use Rattle.half_edges.specs.Halves.{Halves, count}
use Rattle.face_walks.specs.declared.headings.Heading.{Heading}
use Rattle.face_walks.specs.Headings.{lead}
use Rattle.face_walks.specs.Linked.{piece_at}

abbrev pub half_at : List HalfId → ℕ → ℕ
half_at ring k = (slice_index_or ring k (record { 0 = 0 })).0

abbrev pub HasHalf : List HalfId → ℕ → Type 0
HasHalf ring h = (k : ℕ) × (k < length ring) × (half_at ring k ≡ h)

-- the ring of a vertex
abbrev pub ring_at : List (List HalfId) → ℕ → List HalfId
ring_at rings v = slice_index_or rings v []

module _ {A : Type 0} (K : OrderedRing A) (headings : List (Heading A)) where
  abbrev pub Turns : ℕ → ℕ → ℕ → Type 0
  Turns f g h = IsClockwise K (lead K headings f) (lead K headings g) (lead K headings h)

  -- none stands twice, and each stands clockwise from the first after those before it
  pub record IsRing (ring : List HalfId) : Type 0 where
    pub once : (i j : ℕ) → i < j → j < length ring → ¬ (half_at ring i ≡ half_at ring j)
    pub clockwise : (j k : ℕ) → 0 < j → j < k → k < length ring → Turns (half_at ring 0) (half_at ring j) (half_at ring k)

  -- the half-edges of the ring, and h, lead different ways
  pub record AreApart (ring : List HalfId) (h : ℕ) : Type 0 where
    pub new : (k : ℕ) → k < length ring → ¬ (half_at ring k ≡ h)
    pub to_new : (k : ℕ) → k < length ring → Differ K (lead K headings (half_at ring k)) (lead K headings h)
    pub from_new : (k : ℕ) → k < length ring → Differ K (lead K headings h) (lead K headings (half_at ring k))
    pub within : (i j : ℕ) → i < length ring → j < length ring → ¬ (i ≡ j) → Differ K (lead K headings (half_at ring i)) (lead K headings (half_at ring j))

  -- clockwise from the first, h comes after those before the place, and before those from it on
  pub record IsPlaceFor (ring : List HalfId) (h place : ℕ) : Type 0 where
    pub in_ring : place ≤ length ring
    pub not_first : 0 < length ring → 0 < place
    pub before : (k : ℕ) → 0 < k → k < place → Turns (half_at ring 0) (half_at ring k) h
    pub behind : (k : ℕ) → place ≤ k → k < length ring → Turns (half_at ring 0) h (half_at ring k)

  -- the rings of the vertices, with the first n half-edges
  pub record AreRings (arena : Halves (ℕ × ℕ)) (n : ℕ) (rings : List (List HalfId)) : Type 0 where
    pub ring : (v : ℕ) → v < length rings → IsRing (ring_at rings v)
    pub only : (v k : ℕ) → v < length rings → k < length (ring_at rings v)
        → (half_at (ring_at rings v) k < n) × ((piece_at arena (half_at (ring_at rings v) k)).0 ≡ v)
    pub every : (h : ℕ) → h < n → HasHalf (ring_at rings (piece_at arena h).0) h

-- each half-edge stands once, in the ring of the vertex that it goes out of
pub record AreOutgoing (arena : Halves (ℕ × ℕ)) (rings : List (List HalfId)) : Type 0 where
  pub in_range : (v k : ℕ) → v < length rings → k < length (ring_at rings v) → half_at (ring_at rings v) k < count arena
  pub tails : (v k : ℕ) → v < length rings → k < length (ring_at rings v) → (piece_at arena (half_at (ring_at rings v) k)).0 ≡ v
  pub once : (v i j : ℕ) → v < length rings → i < j → j < length (ring_at rings v) → ¬ (half_at (ring_at rings v) i ≡ half_at (ring_at rings v) j)
  pub every : (h : ℕ) → h < count arena → HasHalf (ring_at rings (piece_at arena h).0) h
