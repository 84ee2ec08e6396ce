-- the keys that are read, each with the kind of what stands there
use Rattle.std.specs.Prelude.{ℕ, List, [], ◌∷◌, ◌++◌, Option, Some, None, if◌then◌else◌, codes}
use Rattle.std.specs.Str.{bytes_eq}
use Rattle.fold_keys.specs.declared.kind.Kind.{Kind}
use Rattle.fold_keys.specs.declared.kind.Kind.TheVariants as kinds
use Rattle.fold_keys.specs.declared.kind.Part.TheVariants.{Vertices, Edges}

pub record Row : Type 0 where
  pub key : List ℕ
  pub kind : Kind

abbrev row : List ℕ → Kind → Row
row key kind = record { key = key; kind = kind }

-- in every frame
abbrev pub frame_rows : List Row
frame_rows =
    row (codes "frame_author") kinds.Word ∷
    row (codes "frame_title") kinds.Word ∷
    row (codes "frame_description") kinds.Word ∷
    row (codes "frame_unit") kinds.Word ∷
    row (codes "frame_classes") kinds.Words ∷
    row (codes "frame_attributes") kinds.Words ∷
    row (codes "frame_parent") kinds.Id ∷
    row (codes "frame_inherit") kinds.Truth ∷
    row (codes "vertices_coords") kinds.Coords ∷
    row (codes "fx:vertices_coords") kinds.Exact ∷
    row (codes "vertices_vertices") (kinds.IdLists Vertices) ∷
    row (codes "vertices_edges") (kinds.IdLists Edges) ∷
    row (codes "vertices_faces") kinds.FaceLists ∷
    row (codes "edges_vertices") kinds.Pairs ∷
    row (codes "edges_faces") kinds.FaceLists ∷
    row (codes "edges_assignment") kinds.Letters ∷
    row (codes "edges_foldAngle") kinds.Numbers ∷
    row (codes "edges_length") kinds.Numbers ∷
    row (codes "faces_vertices") (kinds.IdLists Vertices) ∷
    row (codes "faces_edges") (kinds.IdLists Edges) ∷
    row (codes "faces_faces") kinds.FaceLists ∷
    row (codes "faceOrders") kinds.Orders ∷
    []

-- in the first frame alone
abbrev pub file_rows : List Row
file_rows =
    row (codes "file_spec") kinds.Spec ∷
    row (codes "file_creator") kinds.Word ∷
    row (codes "file_author") kinds.Word ∷
    row (codes "file_title") kinds.Word ∷
    row (codes "file_description") kinds.Word ∷
    row (codes "file_classes") kinds.Words ∷
    row (codes "file_frames") kinds.Frames ∷
    []

-- the kind at the first row with this key
abbrev pub kind_in : List Row → List ℕ → Option Kind
kind_in [] key = None
kind_in (row ∷ rows) key = if bytes_eq key row.key then Some row.kind else kind_in rows key

abbrev pub kind_in_frame : List ℕ → Option Kind
kind_in_frame key = kind_in frame_rows key

-- the first frame has keys of its own
abbrev pub kind_in_first_frame : List ℕ → Option Kind
kind_in_first_frame key = kind_in (file_rows ++ frame_rows) key
