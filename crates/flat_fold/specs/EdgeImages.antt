-- The images of a sheet's edges: what the faces at their two sides make of their ends.
use Rattle.std.specs.Prelude.{◌≡◌, ℕ, ◌<◌, nat_eq, nat_lt, ◌&&◌, if◌then◌else◌, List, [], ◌∷◌, ◌++◌, length, map, Option, Some, None, slice_index_or}
use Rattle.fold_base.specs.declared.letter.Letter.{Letter}
use Rattle.scaled_plane.specs.Walks.{pieces_round}
use Rattle.scaled_plane.specs.declared.drawing.Edge.{Edge}
use Rattle.scaled_plane.specs.declared.drawing.Face.{Face}
use Rattle.flat_fold.specs.declared.sides.Side.{Side}
use Rattle.flat_fold.specs.declared.sides.Sides.{Sides}
use Rattle.flat_fold.specs.Faces.{corners_at}
use Rattle.flat_fold.specs.Folded.{Layout}

-- the same ends in the other order
abbrev pub swapped : ℕ × ℕ → ℕ × ℕ
swapped p = (p.1, p.0)

-- two images, and one where they are the same
abbrev pub both : ℕ × ℕ → ℕ × ℕ → List (ℕ × ℕ)
both p q = if nat_eq p.0 q.0 && nat_eq p.1 q.1 then p ∷ [] else p ∷ q ∷ []

-- an edge between two images
abbrev pub image_of : Letter → ℕ × ℕ → Edge
image_of letter ends = record { from = ends.0; to = ends.1; letter = letter }

-- with each face told by the images of its corners
module _ (corners : List Face) where
  -- the corner at which a side's piece begins is one of a face
  abbrev pub IsCornerOf : Side → Type 0
  IsCornerOf side = (side.face < length corners) × (side.corner < length (corners_at corners side.face))

  -- the images of the ends of the piece at a side
  abbrev pub along : Side → ℕ × ℕ
  along side = slice_index_or (pieces_round (corners_at corners side.face)) side.corner (0, 0)

  -- the images of an edge's first and second end that its faces give, in the order of the faces
  abbrev pub end_images : Option Side → Option Side → List (ℕ × ℕ)
  end_images None None = []
  end_images (Some left) None = along left ∷ []
  end_images None (Some right) = swapped (along right) ∷ []
  end_images (Some left) (Some right) =
      if nat_lt right.face left.face then both (swapped (along right)) (along left) else both (along left) (swapped (along right))

  -- the images of an edge with this letter
  abbrev pub images_of : Letter → Sides → List Edge
  images_of letter sides = map (image_of letter) (end_images sides.left sides.right)

  -- those of all edges, in the order of the edges
  abbrev pub edge_images : List Edge → List Sides → List Edge
  edge_images [] sides = []
  edge_images (edge ∷ edges) [] = []
  edge_images (edge ∷ edges) (s ∷ sides) = images_of edge.letter s ++ edge_images edges sides

-- these are the images of the folded sheet's edges
abbrev pub AreEdgeImages : {N W : Type 0} → Layout N W → List Edge → Type 0
AreEdgeImages layout images =
    images ≡ edge_images layout.corners layout.sheet.ends.edges layout.sides
