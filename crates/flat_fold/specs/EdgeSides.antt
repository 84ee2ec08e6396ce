-- The sides of edges: which face lies at the left of each of their two directed pieces, and where the piece begins in it.
use Rattle.std.specs.Prelude.{◌≡◌, ◌⊎◌, ◌<◌, ℕ, List, length, Option, Some, None, slice_get, slice_index_or}
use Rattle.std.specs.BTreeMap.{BTreeMap, get}
use Rattle.std.specs.Ordering.{nat_cmp, ordering_then}
use Rattle.std.specs.declared.cmp.Ordering.{Ordering}
use Rattle.fold_base.specs.declared.letter.Letter.{Letter}
use Rattle.scaled_plane.specs.Walks.{pieces_round}
use Rattle.scaled_plane.specs.declared.drawing.Edge.{Edge}
use Rattle.scaled_plane.specs.declared.drawing.Face.{Face}
use Rattle.flat_fold.specs.declared.levels.Between.{Between}
use Rattle.flat_fold.specs.declared.sides.Side.{Side}
use Rattle.flat_fold.specs.declared.sides.Sides.{Sides}
use Rattle.flat_fold.specs.Faces.{IsPassable, corners_at, edge_at}

-- the sides of an edge; past the end none
abbrev pub sides_at : List Sides → ℕ → Sides
sides_at sides e = slice_index_or sides e (record { left = None; right = None })

module _ (faces : List Face) where
  -- the face f has the directed piece from u to v, which begins at its corner k
  pub record Begins (f k u v : ℕ) : Type 0 where
    pub is_face : f < length faces
    pub piece : slice_get (pieces_round (corners_at faces f)) k ≡ Some (u, v)

  -- the face at the left of the piece from u to v, if there is one
  abbrev pub IsSide : ℕ → ℕ → Option Side → Type 0
  IsSide u v (Some side) = Begins side.face side.corner u v
  IsSide u v None = (f k : ℕ) → ¬ Begins f k u v

  -- the faces at the left of both directed pieces of an edge
  pub record HasSides (edge : Edge) (sides : Sides) : Type 0 where
    pub left : IsSide edge.from edge.to sides.left
    pub right : IsSide edge.to edge.from sides.right

  -- the sides of all edges
  pub record KnowsSides (edges : List Edge) (sides : List Sides) : Type 0 where
    pub long : length sides ≡ length edges
    pub each : (e : ℕ) → e < length edges → HasSides (edge_at edges e) (sides_at sides e)

-- the faces at both sides of an edge, where its letter lets walks of faces cross it
abbrev pub Separates : Letter → Sides → Option Between → Type 0
Separates letter sides (Some b) =
    IsPassable letter × (left right : Side) × (sides.left ≡ Some left) × (sides.right ≡ Some right) × (b.first ≡ left.face) × (b.second ≡ right.face)
Separates letter sides None = IsPassable letter → (sides.left ≡ None) ⊎ (sides.right ≡ None)

-- by the first vertex, then by the second
abbrev pub piece_order : ℕ × ℕ → ℕ × ℕ → Ordering
piece_order p q = ordering_then (nat_cmp p.0 q.0) (nat_cmp p.1 q.1)

-- the map has the directed pieces of the faces before f and those at the corners before k of f, and nothing else
pub record HasPieces (faces : List Face) (f k : ℕ) (pieces : BTreeMap (ℕ × ℕ) Side) : Type 0 where
  pub only : (u v : ℕ) (side : Side) → get piece_order pieces (u, v) ≡ Some side → Begins faces side.face side.corner u v
  pub every : (g j u v : ℕ) → (g < f) ⊎ ((g ≡ f) × (j < k)) → Begins faces g j u v → (side : Side) × (get piece_order pieces (u, v) ≡ Some side)
