-- the edges of a frame as CP lines
use Rattle.std.specs.Prelude.{◌≡◌, ℕ, not, Bool, true, List, [], ◌∷◌, length, map, zip, replicate, slice_index_or, Option, Some, None, codes, if◌then◌else◌, is_some, Result, Ok, Err}
use Rattle.std.specs.List.{position}
use Rattle.std.specs.Option.{option_map_or}
use Rattle.cp_lines.specs.declared.line.CpLine.{CpLine}
use Rattle.fold_base.specs.declared.letter.Letter.{Letter}
use Rattle.fold_base.specs.declared.letter.Letter.TheVariants.{Border, Mountain, Valley, Flat, Unassigned, Cut, Join}
use Rattle.fold_frames.specs.Counts.{first_of}
use Rattle.fold_frames.specs.Parents.{value_at}
use Rattle.fold_keys.specs.declared.value.Entry.{Entry}
use Rattle.fold_keys.specs.declared.value.Value.{Value}
use Rattle.fold_keys.specs.declared.value.Value.TheVariants as values
use Rattle.frame_lines.specs.Zero.{is_zero}
use Rattle.frame_lines.specs.declared.fault.LinesFault.{LinesFault}
use Rattle.frame_lines.specs.declared.fault.LinesFault.TheVariants as faults

-- ---- what the frame has

-- the first of these keys that the frame lacks
abbrev pub lacking : List Entry → List ℕ → Option (List ℕ)
lacking entries key = if is_some (value_at entries key) then None else Some key

abbrev pub first_missing : List Entry → Option (List ℕ)
first_missing entries =
    first_of (lacking entries) (codes "vertices_coords" ∷ codes "edges_vertices" ∷ [])

-- the coordinates of its vertices, as they are spelled
abbrev pub points_in : Option Value → List (List (List ℕ))
points_in (Some (values.Coords points)) = points
points_in value = []

abbrev pub points_of : List Entry → List (List (List ℕ))
points_of entries = points_in (value_at entries (codes "vertices_coords"))

-- the two vertices of each of its edges
abbrev pub edges_in : Option Value → List (ℕ × ℕ)
edges_in (Some (values.Pairs edges)) = edges
edges_in value = []

abbrev pub edges_of : List Entry → List (ℕ × ℕ)
edges_of entries = edges_in (value_at entries (codes "edges_vertices"))

-- the letters of so many edges: without letters nobody has chosen how they are folded
abbrev pub letters_in : ℕ → Option Value → List Letter
letters_in edges (Some (values.Letters letters)) = letters
letters_in edges value = replicate edges Unassigned

abbrev pub letters_of : List Entry → List Letter
letters_of entries =
    letters_in (length (edges_of entries)) (value_at entries (codes "edges_assignment"))

-- ---- vertices that don't lie in the plane

-- a third coordinate, if there is one, is 0
abbrev pub is_flat : List (List ℕ) → Bool
is_flat (x ∷ y ∷ z ∷ rest) = is_zero z
is_flat point = true

abbrev pub first_steep : List Entry → Option ℕ
first_steep entries = position (λ point. not (is_flat point)) (points_of entries)

-- ---- lines

-- the kind that stands for a letter
abbrev pub kind_of : Letter → ℕ
kind_of Border = 1
kind_of Cut = 1
kind_of Mountain = 2
kind_of Valley = 3
kind_of Flat = 4
kind_of Unassigned = 4
kind_of Join = 4

-- a coordinate of a vertex
abbrev pub coordinate : List (List (List ℕ)) → ℕ → ℕ → List ℕ
coordinate points vertex axis = slice_index_or (slice_index_or points vertex []) axis []

-- the line of an edge with its letter
abbrev pub line_of : List (List (List ℕ)) → (ℕ × ℕ) × Letter → CpLine
line_of points edge = record {
  kind = kind_of edge.1;
  x1 = coordinate points edge.0.0 0;
  y1 = coordinate points edge.0.0 1;
  x2 = coordinate points edge.0.1 0;
  y2 = coordinate points edge.0.1 1;
}

abbrev pub lines_of : List Entry → List CpLine
lines_of entries = map (line_of (points_of entries)) (zip (edges_of entries) (letters_of entries))

-- ---- answers

-- the frame has no lines, for this cause
abbrev pub HasNoLines : List Entry → LinesFault → Type 0
HasNoLines entries (faults.Missing key) = first_missing entries ≡ Some key
HasNoLines entries (faults.NotFlat vertex) =
    (first_missing entries ≡ None) × (first_steep entries ≡ Some vertex)
HasNoLines entries (faults.Memory error) = ⊥

-- these are the lines of its edges
abbrev pub HasLines : List Entry → List CpLine → Type 0
HasLines entries lines =
    (first_missing entries ≡ None) × (first_steep entries ≡ None) × (lines ≡ lines_of entries)

-- nothing is said where memory was wanting
abbrev pub AnswersLines : List Entry → Result (List CpLine) LinesFault → Type 0
AnswersLines entries (Ok lines) = HasLines entries lines
AnswersLines entries (Err (faults.Memory error)) = Unit {0}
AnswersLines entries (Err fault) = HasNoLines entries fault

-- the fault names this key, or memory was wanting for it
abbrev pub IsMissing : List ℕ → LinesFault → Type 0
IsMissing key (faults.Missing named) = named ≡ key
IsMissing key (faults.NotFlat vertex) = ⊥
IsMissing key (faults.Memory error) = Unit {0}

abbrev pub IsLacking : List Entry → List ℕ → LinesFault → Type 0
IsLacking entries key fault = (value_at entries key ≡ None) × IsMissing key fault
