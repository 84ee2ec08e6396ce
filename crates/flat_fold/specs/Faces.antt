-- Faces and the edges between them.
use Rattle.std.specs.Prelude.{◌≡◌, ◌⊎◌, ℕ, List, [], ◌∷◌, ◌<◌, length, slice_index_or}
use Rattle.std.specs.List.{Contains}
use Rattle.fold_base.specs.declared.letter.Letter.{Letter}
use Rattle.fold_base.specs.declared.letter.Letter.TheVariants.{Border, Mountain, Valley, Flat, Unassigned, Cut, Join}
use Rattle.scaled_plane.specs.Walks.{pieces_round}
use Rattle.scaled_plane.specs.declared.drawing.Edge.{Edge}
use Rattle.scaled_plane.specs.declared.drawing.Face.{Face}

-- walks of faces may cross an edge with this letter: the paper isn't parted there
abbrev pub IsPassable : Letter → Type 0
IsPassable Border = ⊥
IsPassable Cut = ⊥
IsPassable Mountain = Unit {0}
IsPassable Valley = Unit {0}
IsPassable Unassigned = Unit {0}
IsPassable Flat = Unit {0}
IsPassable Join = Unit {0}

-- the edge or the face at a place; past the end one without letter or corners, at which nothing is crossed
abbrev pub edge_at : List Edge → ℕ → Edge
edge_at edges e = slice_index_or edges e (record { from = 0; to = 0; letter = Border })

abbrev pub corners_at : List Face → ℕ → List ℕ
corners_at faces f = (slice_index_or faces f (record { corners = [] })).corners

module _ (edges : List Edge) (faces : List Face) where
  -- the face f lies along the directed piece from u to v, which is at its left
  abbrev pub LiesAlong : ℕ → ℕ → ℕ → Type 0
  LiesAlong f u v = Contains (pieces_round (corners_at faces f)) (u, v)

  -- one of the two faces lies along the edge, and the other along it backwards
  abbrev pub IsBetween : Edge → ℕ → ℕ → Type 0
  IsBetween edge f g = (LiesAlong f edge.from edge.to × LiesAlong g edge.to edge.from) ⊎ (LiesAlong f edge.to edge.from × LiesAlong g edge.from edge.to)

  -- the edge e, whose letter is neither B nor C, leads from the face f to the face g
  pub record Leads (e f g : ℕ) : Type 0 where
    pub is_edge : e < length edges
    pub passable : IsPassable (edge_at edges e).letter
    pub between : IsBetween (edge_at edges e) f g

  -- a walk of faces: a list of edges, each of which leads from the face reached to the next
  abbrev pub IsWalk : ℕ → List ℕ → ℕ → Type 0
  IsWalk f [] g = f ≡ g
  IsWalk f (e ∷ es) g = (h : ℕ) × Leads e f h × IsWalk h es g

  -- no walk leads from face 0 to f
  abbrev pub IsSevered : ℕ → Type 0
  IsSevered f = ¬ ((es : List ℕ) × IsWalk 0 es f)
