-- A folded sheet as its layers see it: where the faces lie, and which sides of faces each edge is.
use Rattle.std.specs.Prelude.{ℕ, Bool, false, List, [], ◌∷◌, ◌++◌, length, map, Option, Some, None, slice_index_or}
use Rattle.std.specs.List.{range_with_len}
use Rattle.algebra.specs.OrderedRing.{OrderedRing}
use Rattle.scaled_plane.specs.Pieces.{point_at}
use Rattle.flat_fold.specs.declared.motion.Motion.{Motion}
use Rattle.flat_fold.specs.declared.sides.Side.{Side}
use Rattle.flat_fold.specs.declared.sides.Sides.{Sides}
use Rattle.flat_fold.specs.EdgeSides.{sides_at}
use Rattle.flat_fold.specs.Faces.{corners_at, edge_at}
use Rattle.flat_fold.specs.Folded.{Layout}
use Rattle.layers.specs.Sheets.{FaceSide, FoldedEdge, FoldedFace, FoldedSheet}

-- the side of an edge, where there is a face
abbrev pub side_there : Option Side → List FaceSide
side_there (Some side) = record { face = side.face; corner = side.corner } ∷ []
side_there None = []

-- the left side, then the right
abbrev pub sides_there : Sides → List FaceSide
sides_there sides = side_there sides.left ++ side_there sides.right

-- the face f lies with its other side up
abbrev pub turned_at : {N : Type 0} → List (Motion N) → ℕ → Bool
turned_at maps f = slice_index_or (map (λ m. m.turned) maps) f false

module _ {N W : Type 0} (K : OrderedRing W) (layout : Layout N W) where
  -- the face f: its corners are the images of its corners times their common denominator, and it is turned as its map is
  abbrev pub folded_face : ℕ → FoldedFace W
  folded_face f = record {
    corners = map (point_at K layout.scaled.points) (corners_at layout.corners f);
    turned = turned_at layout.maps f;
  }

  -- the edge e, with the sides of faces that it is
  abbrev pub folded_edge : ℕ → FoldedEdge
  folded_edge e = record {
    letter = (edge_at layout.sheet.ends.edges e).letter;
    sides = sides_there (sides_at layout.sides e);
  }

  abbrev pub folded_sheet : FoldedSheet W
  folded_sheet = record {
    faces = map folded_face (range_with_len 0 (length layout.sheet.faces));
    edges = map folded_edge (range_with_len 0 (length layout.sheet.ends.edges));
  }
