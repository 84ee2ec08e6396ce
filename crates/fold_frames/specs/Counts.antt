-- how many vertices, edges and faces a frame has, and whether its lists agree on it
use Rattle.std.specs.Prelude.{◌≡◌, ℕ, ◌==◌, ◌||◌, nat_lt, not, Bool, false, List, [], ◌∷◌, length, filter, map, Option, Some, None, option_map, option_and_then, if◌then◌else◌, codes, Result, Ok, Err}
use Rattle.std.specs.List.{list_any, position, starts_with}
use Rattle.std.specs.Option.{option_map_or}
use Rattle.std.specs.Str.{bytes_eq}
use Rattle.std.proofs.Math.Dec.{eqb}
use Rattle.fold_keys.specs.Along.{or_else}
use Rattle.fold_keys.specs.Table.{Row, frame_rows}
use Rattle.fold_keys.specs.declared.fault.FoldFault.{FoldFault}
use Rattle.fold_keys.specs.declared.fault.FoldFault.TheVariants as faults
use Rattle.fold_keys.specs.declared.fault.ShapeFault.{ShapeFault}
use Rattle.fold_keys.specs.declared.fault.ShapeKind.{ShapeKind}
use Rattle.fold_keys.specs.declared.fault.ShapeKind.TheVariants as causes
use Rattle.fold_keys.specs.declared.kind.Kind.{Kind}
use Rattle.fold_keys.specs.declared.kind.Kind.TheVariants as kinds
use Rattle.fold_keys.specs.declared.kind.Part.{Part}
use Rattle.fold_keys.specs.declared.kind.Part.TheVariants.{Vertices, Edges, Faces}
use Rattle.fold_keys.specs.declared.value.Entry.{Entry}
use Rattle.fold_keys.specs.declared.value.Value.{Value}
use Rattle.fold_keys.specs.declared.value.Value.TheVariants as values
use Rattle.fold_frames.specs.Parents.{value_at}
use Rattle.fold_frames.specs.Effects.{FrameInEffect}
use Rattle.fold_frames.specs.declared.counts.Counts.{Counts}

-- the first answer that f has for an element
abbrev pub first_of : {A B : Type 0} → (A → Option B) → List A → Option B
first_of f [] = None
first_of f (x ∷ xs) = or_else (f x) (first_of f xs)

-- ---- lengths

-- a list at this key has an element for each vertex, edge or face
abbrev pub is_about : Part → List ℕ → Bool
is_about Vertices key =
    starts_with eqb key (codes "vertices_") || bytes_eq key (codes "fx:vertices_coords")
is_about Edges key = starts_with eqb key (codes "edges_")
is_about Faces key = starts_with eqb key (codes "faces_")

-- the keys of these lists, in the order of the table
abbrev pub lists_of : Part → List (List ℕ)
lists_of part = filter (is_about part) (map (λ row. row.key) frame_rows)

-- how many elements a value has, if it is a list
abbrev pub length_of : Value → Option ℕ
length_of (values.Words words) = Some (length words)
length_of (values.Numbers texts) = Some (length texts)
length_of (values.Coords points) = Some (length points)
length_of (values.IdLists lists) = Some (length lists)
length_of (values.Pairs pairs) = Some (length pairs)
length_of (values.Letters letters) = Some (length letters)
length_of (values.Orders orders) = Some (length orders)
length_of (values.Exact points) = Some (length points)
length_of value = None

-- the length of the list at the key
abbrev pub length_at : List Entry → List ℕ → Option ℕ
length_at entries key = option_and_then length_of (value_at entries key)

-- how many of the part there are: the length of the first of its lists, if there is one
abbrev pub count_of : List Entry → Part → Option ℕ
count_of entries part = first_of (length_at entries) (lists_of part)

-- the key, and the length of the list there, if it is another than this
abbrev pub other_length : List Entry → ℕ → List ℕ → Option (List ℕ × ℕ)
other_length entries count key =
    option_and_then (λ length. if length == count then None else Some (key, length))
    (length_at entries key)

-- the first list of the part that has another length than the first
abbrev pub uneven_of : List Entry → Part → Option (List ℕ × ℕ)
uneven_of entries part =
    option_and_then (λ count. first_of (other_length entries count) (lists_of part))
    (count_of entries part)

abbrev pub first_uneven : List Entry → Option (List ℕ × ℕ)
first_uneven entries = first_of (uneven_of entries) (Vertices ∷ Edges ∷ Faces ∷ [])

-- ---- ids

-- what the ids of a list of this kind name
abbrev pub named_by : Kind → Option Part
named_by (kinds.IdLists part) = Some part
named_by kinds.FaceLists = Some Faces
named_by kinds.Pairs = Some Vertices
named_by kinds.Orders = Some Faces
named_by kind = None

-- the keys of lists of ids, with what these name, in the order of the table
abbrev pub naming : List Row → List (List ℕ × Part)
naming [] = []
naming (row ∷ rows) =
    option_map_or (λ part. (row.key, part) ∷ naming rows) (named_by row.kind) (naming rows)

abbrev pub id_lists : List (List ℕ × Part)
id_lists = naming frame_rows

-- the id isn't below the count
abbrev pub is_past : ℕ → ℕ → Bool
is_past count id = not (nat_lt id count)

abbrev pub is_some_past : ℕ → Option ℕ → Bool
is_some_past count id = option_map_or (is_past count) id false

-- the place of the first element with an id that isn't below the count
abbrev pub place_past : ℕ → Value → Option ℕ
place_past count (values.IdLists lists) =
    position (list_any (is_some_past count)) lists
place_past count (values.Pairs pairs) =
    position (λ pair. is_past count pair.0 || is_past count pair.1) pairs
place_past count (values.Orders orders) =
    position (λ o. is_past count o.first || is_past count o.second) orders
place_past count value = None

-- the key, and the place of the first element there with an id of something that isn't there, where
-- it is known how many there are
abbrev pub past_at : List Entry → List ℕ × Part → Option (List ℕ × ℕ)
past_at entries list =
    option_map (λ place. (list.0, place))
    (option_and_then (λ count. option_and_then (place_past count) (value_at entries list.0))
    (count_of entries list.1))

abbrev pub first_past : List Entry → Option (List ℕ × ℕ)
first_past entries = first_of (past_at entries) id_lists

-- ---- the fault

abbrev pub fault_at : ℕ → ShapeKind → List ℕ × ℕ → ShapeFault
fault_at frame cause at = record { frame = frame; key = at.0; index = at.1; cause = cause }

-- the answer names this fault, or memory was wanting for it
abbrev pub IsFault : ShapeFault → FoldFault → Type 0
IsFault fault (faults.Shape found) = found ≡ fault
IsFault fault (faults.Memory e) = Unit {0}

-- where the lists of a frame first don't agree: in their lengths, or else in their ids
abbrev pub misfit_in_effect : FrameInEffect → Option ShapeFault
misfit_in_effect f =
    or_else (option_map (fault_at f.frame causes.Uneven) (first_uneven f.entries))
    (option_map (fault_at f.frame causes.IdRange) (first_past f.entries))

-- how many there are of each part
abbrev pub counts_of : List Entry → Counts
counts_of entries = record {
  vertices = count_of entries Vertices;
  edges = count_of entries Edges;
  faces = count_of entries Faces;
}

abbrev pub AnswersCounts : FrameInEffect → Result Counts FoldFault → Type 0
AnswersCounts f (Ok counts) = (counts ≡ counts_of f.entries) × (misfit_in_effect f ≡ None)
AnswersCounts f (Err (faults.Shape fault)) = misfit_in_effect f ≡ Some fault
AnswersCounts f (Err (faults.Memory e)) = Unit {0}
