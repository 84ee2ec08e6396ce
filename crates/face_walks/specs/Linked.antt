-- Arenas whose half-edges carry the directed pieces of a drawing.
use Rattle.std.specs.Prelude.{◌≡◌, ℕ, ◌<◌, List, slice_index_or}
use Rattle.algebra.specs.OrderedRing.{OrderedRing}
use Rattle.plane.specs.declared.point.Point.{Point}
use Rattle.scaled_plane.specs.declared.drawing.Edge.{Edge}
use Rattle.scaled_plane.specs.Walks.{Follows, IsDirectedPiece}
use Rattle.half_edges.specs.Halves.{Halves, IsArena, count, next_of, twin_of}

-- the directed piece that a half-edge carries
abbrev pub piece_at : Halves (ℕ × ℕ) → ℕ → ℕ × ℕ
piece_at arena h = slice_index_or arena.payloads h (0, 0)

abbrev pub reverse_of : ℕ × ℕ → ℕ × ℕ
reverse_of p = (p.1, p.0)

-- each directed piece stands in the arena once, and no other, with its reverse as twin
pub record HoldsPieces (edges : List Edge) (arena : Halves (ℕ × ℕ)) : Type 0 where
  pub is_arena : IsArena arena
  pub only : (h : ℕ) → h < count arena → IsDirectedPiece edges (piece_at arena h).0 (piece_at arena h).1
  pub every : (u v : ℕ) → IsDirectedPiece edges u v → (h : ℕ) × (h < count arena) × (piece_at arena h ≡ (u, v))
  pub once : (g h : ℕ) → g < count arena → h < count arena → piece_at arena g ≡ piece_at arena h → g ≡ h
  pub reversed : (h : ℕ) → h < count arena → piece_at arena (twin_of h) ≡ reverse_of (piece_at arena h)

-- and after it stands the piece that comes after it
pub record IsLinked {A : Type 0} (K : OrderedRing A) (vertices : List (Point A)) (edges : List Edge) (arena : Halves (ℕ × ℕ)) : Type 0 where
  pub holds : HoldsPieces edges arena
  pub follow : (h : ℕ) → h < count arena → Follows K vertices edges (piece_at arena h) (piece_at arena (next_of arena h))
