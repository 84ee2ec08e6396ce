-- the vertices, edges and faces of a frame, or why it hasn't any
use Rattle.std.specs.Prelude.{◌≡◌, ℕ, ℤ, ◌≤◌, ◌&&◌, nat_lt, Bool, true, false, List, [], ◌∷◌, ◌++◌, length, map, zip, slice_index_or, Option, Some, None, codes, if◌then◌else◌, Result, Ok, Err}
use Rattle.std.specs.List.{AllByRecursion, AllZip, filter_map}
use Rattle.algebra.specs.LowestTerms.{Parts}
use Rattle.fold_base.specs.declared.letter.Letter.{Letter}
use Rattle.fold_frames.specs.Counts.{first_of}
use Rattle.fold_frames.specs.Parents.{value_at}
use Rattle.fold_keys.specs.Writable.{IsWritableEntry}
use Rattle.fold_keys.specs.declared.value.Entry.{Entry}
use Rattle.fold_keys.specs.declared.value.Value.{Value}
use Rattle.fold_keys.specs.declared.value.Value.TheVariants as values
use Rattle.frame_lines.specs.Lines.{is_flat, lacking, points_of, edges_of, letters_of}
use Rattle.number_rules.specs.ExactText.{ReadsExactText}
use Rattle.number_rules.specs.Billionths.{HasBillionths}
use Rattle.number_rules.specs.Nine.{IsNine}
use Rattle.number_rules.specs.declared.unread.Unread.{Unread}
use Rattle.scaled_plane.specs.declared.drawing.Edge.{Edge}
use Rattle.scaled_plane.specs.declared.drawing.Ends.{Ends}
use Rattle.scaled_plane.specs.declared.drawing.Face.{Face}
use Rattle.scaled_plane.specs.declared.point.Pair.{Pair}
use Rattle.crease_input.specs.Files.{HasCornersWithin}
use Rattle.crease_input.specs.Lines.{IsEdgeWithin, IsPoint, IsUnreadAt, place_of_axis}
use Rattle.crease_input.specs.declared.fault.Counted.{Counted}
use Rattle.crease_input.specs.declared.fault.Counted.TheVariants.{Vertices, Segments, Faces}
use Rattle.crease_input.specs.declared.fault.InputFault.{InputFault}
use Rattle.crease_input.specs.declared.fault.InputFault.TheVariants as faults

-- ---- what the frame has to have

-- the keys that are needed, for faces or without
abbrev pub needed : Bool → List (List ℕ)
needed false = codes "vertices_coords" ∷ codes "edges_vertices" ∷ []
needed true =
    codes "vertices_coords" ∷ codes "edges_vertices" ∷ codes "edges_assignment" ∷ codes "faces_vertices" ∷ []

-- the first of them that the frame lacks
abbrev pub first_missing : Bool → List Entry → Option (List ℕ)
first_missing faces entries = first_of (lacking entries) (needed faces)

-- the corners of each face
abbrev pub corners_in : Option Value → List (List (Option ℕ))
corners_in (Some (values.IdLists lists)) = lists
corners_in value = []

abbrev pub corners_of : List Entry → List (List (Option ℕ))
corners_of entries = corners_in (value_at entries (codes "faces_vertices"))

-- what is the first of which there are more than are computed with
abbrev pub excess : Bool → ℕ → ℕ → ℕ → Option Counted
excess with_faces vertices edges faces =
    if nat_lt 16384 vertices then Some Vertices else (if nat_lt 2048 edges then Some Segments else (if with_faces && nat_lt 512 faces then Some Faces else None))

abbrev pub excess_of : Bool → List Entry → Option Counted
excess_of faces entries =
    excess faces (length (points_of entries)) (length (edges_of entries)) (length (corners_of entries))

-- ---- vertices

-- a vertex as it is spelled: its coordinates, and its two exact texts where the frame has these
pub record Vertex : Type 0 where
  pub point : List (List ℕ)
  pub exact : Option (List ℕ × List ℕ)

abbrev pub exact_in : Option Value → Option (List (List ℕ × List ℕ))
exact_in (Some (values.Exact texts)) = Some texts
exact_in value = None

abbrev pub exact_of : List Entry → Option (List (List ℕ × List ℕ))
exact_of entries = exact_in (value_at entries (codes "fx:vertices_coords"))

abbrev pub vertices_in : List (List (List ℕ)) → Option (List (List ℕ × List ℕ)) → List Vertex
vertices_in points None = map (λ point. record { point = point; exact = None }) points
vertices_in points (Some texts) =
    map (λ v. record { point = v.0; exact = Some v.1 }) (zip points texts)

abbrev pub vertices_of : List Entry → List Vertex
vertices_of entries = vertices_in (points_of entries) (exact_of entries)

-- a coordinate as it is spelled
abbrev pub spelled : List (List ℕ) → ℕ → List ℕ
spelled point axis = slice_index_or point axis []

-- the two texts that tell the vertex: its exact ones where it has these
abbrev pub texts_by : Option (List ℕ × List ℕ) → List (List ℕ) → List ℕ × List ℕ
texts_by None point = (spelled point 0, spelled point 1)
texts_by (Some exact) point = exact

-- the value of the text is that of the number, rounded to nine decimals
abbrev pub HasRoundedValue : ℕ → Parts → List ℕ → Type 0
HasRoundedValue k p text = (m : ℤ) × IsNine k p m × HasBillionths text m

module _ {N : Type 0} (k : ℕ) (parts : N → Parts) where
  -- the coordinates stand beside exact texts, and have the values of the exact numbers, rounded
  abbrev pub IsFreshBy : Option (List ℕ × List ℕ) → List (List ℕ) → Pair N → Type 0
  IsFreshBy None point p = Unit {0}
  IsFreshBy (Some exact) point p =
      HasRoundedValue k (parts p.x) (spelled point 0) × HasRoundedValue k (parts p.y) (spelled point 1)

  abbrev pub IsFresh : Vertex → Pair N → Type 0
  IsFresh v p = IsFreshBy v.exact v.point p

-- the numbers over √k with these parts, and what the frame's rule answers for a text
module _ {N : Type 0} (k : ℕ) (parts : N → Parts) (rule : List ℕ → Result N Unread → Type 0) where
  -- exact texts are read as what they spell, others by the rule
  abbrev pub answers_by : Option (List ℕ × List ℕ) → List ℕ → Result N Unread → Type 0
  answers_by None = rule
  answers_by (Some exact) = ReadsExactText k parts

  abbrev pub IsTold : Vertex → Pair N → Type 0
  IsTold v p =
      IsPoint (answers_by v.exact) (texts_by v.exact v.point).0 (texts_by v.exact v.point).1 p

  abbrev pub IsUntold : Vertex → ℕ → Unread → Type 0
  IsUntold v place cause =
      IsUnreadAt (answers_by v.exact)
      ((texts_by v.exact v.point).0 ∷ (texts_by v.exact v.point).1 ∷ []) place cause

  -- the vertex lies in the plane, at this point
  pub record IsVertex (v : Vertex) (p : Pair N) : Type 0 where
    pub flat : is_flat v.point ≡ true
    pub told : IsTold v p
    pub fresh : IsFresh k parts v p

  -- it has no point there, for this cause: out of the plane, or else not read, or else stale
  abbrev pub HasNoPoint : Vertex → ℕ → InputFault → Type 0
  HasNoPoint v place (faults.NotFlat vertex) = (vertex ≡ place) × (is_flat v.point ≡ false)
  HasNoPoint v place (faults.Unread vertex axis cause) =
      (vertex ≡ place) × (is_flat v.point ≡ true) × IsUntold v (place_of_axis axis) cause
  HasNoPoint v place (faults.Stale vertex) =
      (vertex ≡ place) × (is_flat v.point ≡ true) × (p : Pair N) × IsTold v p × ¬ IsFresh k parts v p
  HasNoPoint v place fault = ⊥

  abbrev pub AnswersVertex : Vertex → ℕ → Result (Pair N) InputFault → Type 0
  AnswersVertex v place (Ok p) = IsVertex v p
  AnswersVertex v place (Err fault) = HasNoPoint v place fault

  -- each vertex before this one has a point, and this one has none
  pub record IsFirstWithout (vertices : List Vertex) (fault : InputFault) : Type 0 where
    pub before : List Vertex
    pub vertex : Vertex
    pub after : List Vertex
    pub split : vertices ≡ before ++ vertex ∷ after
    pub points : AllByRecursion (λ v. (p : Pair N) × IsVertex v p) before
    pub none : HasNoPoint vertex (length before) fault

  -- the points of all vertices, or the first that has none; nothing is said where memory was wanting
  abbrev pub AnswersVertices : List Vertex → Result (List (Pair N)) InputFault → Type 0
  AnswersVertices vertices (Ok coords) = AllZip IsVertex vertices coords
  AnswersVertices vertices (Err (faults.Memory e)) = Unit {0}
  AnswersVertices vertices (Err fault) = IsFirstWithout vertices fault

-- ---- edges and faces

abbrev pub edge_of : (ℕ × ℕ) × Letter → Edge
edge_of e = record { from = e.0.0; to = e.0.1; letter = e.1 }

-- the edges with their letters
abbrev pub drawn_edges : List Entry → List Edge
drawn_edges entries = map edge_of (zip (edges_of entries) (letters_of entries))

-- a face with the corners that are named
abbrev pub face_of : List (Option ℕ) → Face
face_of ids = record { corners = filter_map (λ id. id) ids }

-- the faces, where they are asked for
abbrev pub drawn_faces : Bool → List Entry → List Face
drawn_faces false entries = []
drawn_faces true entries = map face_of (corners_of entries)

-- ---- answers

module _ {N : Type 0} (k : ℕ) (parts : N → Parts) (rule : List ℕ → Result N Unread → Type 0) where
  -- the frame has these vertices, edges and faces
  pub record IsDrawn (with_faces : Bool) (entries : List Entry) (drawn : Ends N × List Face) : Type 0 where
    pub whole : first_missing with_faces entries ≡ None
    pub few : excess_of with_faces entries ≡ None
    pub coords : AllZip (IsVertex k parts rule) (vertices_of entries) drawn.0.coords
    pub edges : drawn.0.edges ≡ drawn_edges entries
    pub faces : drawn.1 ≡ drawn_faces with_faces entries

  -- it has none, for this cause: a key is missing, or else there is too much, or else a vertex has no
  -- point
  abbrev pub IsUndrawn : Bool → List Entry → InputFault → Type 0
  IsUndrawn with_faces entries (faults.Missing key) = first_missing with_faces entries ≡ Some key
  IsUndrawn with_faces entries (faults.TooMany what) =
      (first_missing with_faces entries ≡ None) × (excess_of with_faces entries ≡ Some what)
  IsUndrawn with_faces entries fault =
      (first_missing with_faces entries ≡ None) × (excess_of with_faces entries ≡ None)
      × IsFirstWithout k parts rule (vertices_of entries) fault

  -- nothing is said where memory was wanting
  abbrev pub AnswersFrame : Bool → List Entry → Result (Ends N × List Face) InputFault → Type 0
  AnswersFrame with_faces entries (Ok drawn) = IsDrawn with_faces entries drawn
  AnswersFrame with_faces entries (Err (faults.Memory e)) = Unit {0}
  AnswersFrame with_faces entries (Err fault) = IsUndrawn with_faces entries fault

-- no more than is computed with, edges between vertices that are there, and corners among them
pub record AreWithin {N : Type 0} (drawn : Ends N × List Face) : Type 0 where
  pub vertices : length drawn.0.coords ≤ 16384
  pub edges : length drawn.0.edges ≤ 2048
  pub faces : length drawn.1 ≤ 512
  pub each_edge : AllByRecursion (IsEdgeWithin (length drawn.0.coords)) drawn.0.edges
  pub each_face : AllByRecursion (HasCornersWithin (length drawn.0.coords)) drawn.1

-- ---- texts that are read by their values

abbrev pub IsReadablePoint : List (List ℕ) → Type 0
IsReadablePoint point = AllByRecursion (λ text. length text ≤ 16777216) point

-- ---- steps

-- the fault names this key, or memory was wanting for it
abbrev pub IsMissing : List ℕ → InputFault → Type 0
IsMissing key (faults.Missing named) = named ≡ key
IsMissing key (faults.Memory e) = Unit {0}
IsMissing key fault = ⊥

abbrev pub IsLacking : List Entry → List ℕ → InputFault → Type 0
IsLacking entries key fault = (value_at entries key ≡ None) × IsMissing key fault

-- where faces are asked for, letters are there and these corners
abbrev pub HasCorners : Bool → List Entry → List (List (Option ℕ)) → Type 0
HasCorners false entries lists = lists ≡ []
HasCorners true entries lists =
    (lacking entries (codes "edges_assignment") ≡ None)
    × (value_at entries (codes "faces_vertices") ≡ Some (values.IdLists lists))
    × IsWritableEntry true (record { key = codes "faces_vertices"; value = values.IdLists lists })

-- the first of the two keys is missing, or memory was wanting to say so
abbrev pub LacksCorners : Bool → List Entry → InputFault → Type 0
LacksCorners true entries (faults.Missing key) =
    first_of (lacking entries) (codes "edges_assignment" ∷ codes "faces_vertices" ∷ []) ≡ Some key
LacksCorners faces entries (faults.Memory e) = Unit {0}
LacksCorners faces entries fault = ⊥
