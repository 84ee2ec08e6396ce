-- The cycles of an arena as lists of corners, each begun at its least directed piece.
use Rattle.std.specs.Prelude.{◌≡◌, ◌⊎◌, ℕ, ◌<◌, List, [], length, Contains, slice_index, slice_index_or}
use Rattle.std.specs.declared.cmp.Ordering.TheVariants.{Less, Greater}
use Rattle.scaled_plane.specs.declared.drawing.Face.{Face}
use Rattle.half_edges.specs.Cycles.{IsCycle}
use Rattle.half_edges.specs.Halves.{Halves, count}
use Rattle.face_walks.specs.Linked.{piece_at}
use Rattle.face_walks.specs.Orders.{corners_of, piece_order}

-- the corners that a list of faces has at a place
abbrev pub corners_in : List Face → ℕ → List ℕ
corners_in faces k = (slice_index_or faces k (record { corners = [] })).corners

module _ (arena : Halves (ℕ × ℕ)) where
  -- the corners are those of the cycle from the half-edge, whose directed piece is the least of it
  pub record IsFrom (corners : List ℕ) (half : ℕ) (cycle : List ℕ) : Type 0 where
    pub in_range : half < count arena
    pub is : IsCycle arena half cycle
    pub corners_are : corners ≡ corners_of arena cycle
    pub least : (g : ℕ) → Contains cycle g → ¬ (piece_order (piece_at arena half) (piece_at arena g) ≡ Greater)

  -- the half-edge is on the cycle of these corners
  abbrev pub IsOnCycle : List ℕ → ℕ → Type 0
  IsOnCycle corners h = (half : ℕ) × (cycle : List ℕ) × IsFrom corners half cycle × Contains cycle h

  -- each cycle is listed once, in the order of the least directed pieces, and apart from these that of the half-edge outside
  pub record AreCycles (outside : ℕ) (faces : List Face) (outer : List ℕ) : Type 0 where
    pub begins : List ℕ
    pub face : (k : ℕ) → k < length faces → (cycle : List ℕ) × IsFrom (corners_in faces k) (slice_index begins k) cycle × ¬ Contains cycle outside
    pub sorted : (j k : ℕ) → j < k → k < length faces → piece_order (piece_at arena (slice_index begins j)) (piece_at arena (slice_index begins k)) ≡ Less
    pub every : (h : ℕ) → h < count arena → IsOnCycle outer h ⊎ ((k : ℕ) × (k < length faces) × IsOnCycle (corners_in faces k) h)
    pub outer_is : IsOnCycle outer outside
