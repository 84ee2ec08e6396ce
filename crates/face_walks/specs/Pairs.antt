-- Arenas with a pair of half-edges for each edge, before they are linked.
use Rattle.std.specs.Prelude.{◌≡◌, ℕ, ◌+◌, ◌*◌, ◌<◌, List, slice_index_or}
use Rattle.fold_base.specs.declared.letter.Letter.TheVariants.{Border}
use Rattle.scaled_plane.specs.declared.drawing.Edge.{Edge}
use Rattle.half_edges.specs.Halves.{Halves, IsArena, count, next_of, twin_of}
use Rattle.face_walks.specs.Linked.{piece_at}

abbrev pub edge_at : List Edge → ℕ → Edge
edge_at edges i = slice_index_or edges i (record { from = 0; to = 0; letter = Border })

-- each of the first n edges there and back, where after each comes its twin
pub record ArePairs (edges : List Edge) (n : ℕ) (arena : Halves (ℕ × ℕ)) : Type 0 where
  pub is_arena : IsArena arena
  pub two_each : count arena ≡ 2 * n
  pub there : (i : ℕ) → i < n → piece_at arena (2 * i) ≡ ((edge_at edges i).from, (edge_at edges i).to)
  pub back : (i : ℕ) → i < n → piece_at arena (2 * i + 1) ≡ ((edge_at edges i).to, (edge_at edges i).from)
  pub turning : (h : ℕ) → h < count arena → next_of arena h ≡ twin_of h
