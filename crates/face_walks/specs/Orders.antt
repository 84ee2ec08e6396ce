-- Half-edges in the order of their directed pieces, and walks that are found one after another.
use Rattle.std.specs.Prelude.{◌≡◌, ◌⊎◌, ℕ, ◌<◌, ◌≤◌, List, [], ◌∷◌, ◌++◌, Bool, true, length, map, Contains, slice_index_or}
use Rattle.std.specs.Ordering.{nat_cmp, ordering_then}
use Rattle.std.specs.declared.cmp.Ordering.{Ordering}
use Rattle.std.specs.declared.cmp.Ordering.TheVariants.{Greater}
use Rattle.scaled_plane.specs.declared.drawing.Face.{Face}
use Rattle.half_edges.specs.Cycles.{IsCycle}
use Rattle.half_edges.specs.Halves.{Halves, count}
use Rattle.face_walks.specs.Linked.{piece_at}
use Rattle.face_walks.specs.Searches.{is_seen}

abbrev pub piece_order : ℕ × ℕ → ℕ × ℕ → Ordering
piece_order p q = ordering_then (nat_cmp p.0 q.0) (nat_cmp p.1 q.1)

-- the half-edge that stands at a place, beside its directed piece
abbrev pub half_in : List ((ℕ × ℕ) × ℕ) → ℕ → ℕ
half_in halves i = (slice_index_or halves i ((0, 0), 0)).1

-- each half-edge, in the order of the directed pieces
pub record AreInOrder (arena : Halves (ℕ × ℕ)) (halves : List ((ℕ × ℕ) × ℕ)) : Type 0 where
  pub in_range : (i : ℕ) → i < length halves → half_in halves i < count arena
  pub every : (h : ℕ) → h < count arena → (i : ℕ) × (i < length halves) × (half_in halves i ≡ h)
  pub sorted : (i j : ℕ) → i ≤ j → j < length halves → ¬ (piece_order (piece_at arena (half_in halves i)) (piece_at arena (half_in halves j)) ≡ Greater)

-- the corners that the half-edges of a cycle go out of
abbrev pub corners_of : Halves (ℕ × ℕ) → List ℕ → List ℕ
corners_of arena cycle = map (λ h. (piece_at arena h).0) cycle

-- the half-edges of the cycle are seen too
pub record AreMarked (seen : List Bool) (cycle : List ℕ) (seen' : List Bool) : Type 0 where
  pub as_many : length seen' ≡ length seen
  pub kept : (h : ℕ) → is_seen seen h ≡ true → is_seen seen' h ≡ true
  pub marked : (h : ℕ) → Contains cycle h → is_seen seen' h ≡ true
  pub only : (h : ℕ) → is_seen seen' h ≡ true → (is_seen seen h ≡ true) ⊎ Contains cycle h

-- the walk of a half-edge is found: it's the outer one where the half-edge along the outside is on it, and else one more face
pub record IsWalkFound (arena : Halves (ℕ × ℕ)) (half outside : ℕ) (faces : List Face) (outer : Face) (seen : List Bool)
    (faces' : List Face) (outer' : Face) (seen' : List Bool) : Type 0 where
  pub cycle : List ℕ
  pub is : IsCycle arena half cycle
  pub marks : AreMarked seen cycle seen'
  pub added : (Contains cycle outside × (outer'.corners ≡ corners_of arena cycle) × (faces' ≡ faces))
      ⊎ ((¬ Contains cycle outside) × (outer' ≡ outer) × (faces' ≡ faces ++ record { corners = corners_of arena cycle } ∷ []))
