-- the file of a drawing
use Rattle.std.specs.Prelude.{◌≡◌, ◌↔◌, ℕ, ℤ, pos, negsuc, ◌<◌, ◌^◌, ◌≤ℤ◌, Bool, IsTrue, List, [], ◌∷◌, ◌++◌, length, map, Option, Some, None, codes, if◌then◌else◌}
use Rattle.std.specs.List.{AllByRecursion, AllZip}
use Rattle.algebra.specs.LowestTerms.{Parts}
use Rattle.cp_lines.specs.declared.line.CpLine.{CpLine}
use Rattle.fold_keys.specs.Writable.{file_of}
use Rattle.fold_keys.specs.declared.value.Entry.{Entry}
use Rattle.fold_keys.specs.declared.value.FaceOrder.{FaceOrder}
use Rattle.fold_keys.specs.declared.value.FoldFile.{FoldFile}
use Rattle.fold_keys.specs.declared.value.Value.{Value}
use Rattle.fold_keys.specs.declared.value.Value.TheVariants as values
use Rattle.frame_lines.specs.Lines.{line_of}
use Rattle.number_rules.specs.ExactText.{AreShort, exact_text_of}
use Rattle.number_rules.specs.Nine.{IsNineText, IsExactlyNine}
use Rattle.scaled_plane.specs.declared.drawing.Edge.{Edge}
use Rattle.scaled_plane.specs.declared.drawing.Ends.{Ends}
use Rattle.scaled_plane.specs.declared.drawing.Face.{Face}
use Rattle.scaled_plane.specs.declared.point.Pair.{Pair}
use Rattle.crease_input.specs.Lines.{IsEdgeWithin}

-- ---- what is asked

-- the parts of a point's coordinates are small enough for its texts
abbrev pub HasShortParts : {N : Type 0} → (N → Parts) → Pair N → Type 0
HasShortParts parts p = AreShort (parts p.x) × AreShort (parts p.y)

-- the corners are vertices
abbrev pub HasCornersWithin : ℕ → Face → Type 0
HasCornersWithin vertices face =
    (length face.corners < 2 ^ 32) × AllByRecursion (λ corner. corner < vertices) face.corners

abbrev pub AreFacesWithin : ℕ → Option (List Face) → Type 0
AreFacesWithin vertices None = Unit {0}
AreFacesWithin vertices (Some faces) =
    (length faces < 2 ^ 32) × AllByRecursion (HasCornersWithin vertices) faces

-- how many faces orders may name: those that are given, or any that ids can tell
abbrev pub face_count : Option (List Face) → ℕ
face_count None = 2 ^ 32
face_count (Some faces) = length faces

-- an order of two faces, whose side is one of -1, 0 and 1
pub record IsOrderWithin (faces : ℕ) (order : FaceOrder) : Type 0 where
  pub first : order.first < faces
  pub second : order.second < faces
  pub side : (negsuc 0 ≤ℤ order.side) × (order.side ≤ℤ pos 1)

abbrev pub AreOrdersWithin : ℕ → Option (List FaceOrder) → Type 0
AreOrdersWithin faces None = Unit {0}
AreOrdersWithin faces (Some orders) =
    (length orders < 2 ^ 32) × AllByRecursion (IsOrderWithin faces) orders

-- a drawing that has a file: short coordinates, ids of what is there, and no more than ids can count
pub record IsFileable {N : Type 0} (parts : N → Parts) (ends : Ends N) (faces : Option (List Face)) (orders : Option (List FaceOrder)) : Type 0 where
  pub coords : AllByRecursion (HasShortParts parts) ends.coords
  pub few_vertices : length ends.coords < 2 ^ 32
  pub few_edges : length ends.edges < 2 ^ 32
  pub edges : AllByRecursion (IsEdgeWithin (length ends.coords)) ends.edges
  pub faces_fit : AreFacesWithin (length ends.coords) faces
  pub orders_fit : AreOrdersWithin (face_count faces) orders

-- ---- entries

abbrev pub entry : List ℕ → Value → Entry
entry key value = record { key = key; value = value }

abbrev pub head_entries : List ℕ → List Entry
head_entries class =
    entry (codes "file_spec") (values.Number (codes "1.2")) ∷
    entry (codes "file_creator") (values.Word (codes "fold_program")) ∷
    entry (codes "frame_classes") (values.Words (class ∷ [])) ∷
    []

-- both coordinates of each point, by these texts
abbrev pub coords_entry : List (List ℕ × List ℕ) → Entry
coords_entry texts =
    entry (codes "vertices_coords") (values.Coords (map (λ t. t.0 ∷ t.1 ∷ []) texts))

abbrev pub edge_entries : List Edge → List Entry
edge_entries edges =
    entry (codes "edges_vertices") (values.Pairs (map (λ edge. (edge.from, edge.to)) edges)) ∷
    entry (codes "edges_assignment") (values.Letters (map (λ edge. edge.letter) edges)) ∷
    []

abbrev pub face_entries : Option (List Face) → List Entry
face_entries None = []
face_entries (Some faces) =
    entry (codes "faces_vertices") (values.IdLists (map (λ face. map Some face.corners) faces)) ∷ []

abbrev pub order_entries : Option (List FaceOrder) → List Entry
order_entries None = []
order_entries (Some orders) = entry (codes "faceOrders") (values.Orders orders) ∷ []

module _ {N : Type 0} (parts : N → Parts) where
  -- the number is a whole number of billionths, so that rounding changes nothing
  abbrev pub IsNineDecimal : N → Type 0
  IsNineDecimal x = (m : ℤ) × IsExactlyNine (parts x) m

  abbrev pub AreNineDecimals : Pair N → Type 0
  AreNineDecimals p = IsNineDecimal p.x × IsNineDecimal p.y

module _ {N : Type 0} (k : ℕ) (parts : N → Parts) where
  -- the texts of a point, each rounded to nine decimals
  abbrev pub AreNineTexts : Pair N → List ℕ × List ℕ → Type 0
  AreNineTexts p texts = IsNineText k (parts p.x) texts.0 × IsNineText k (parts p.y) texts.1

  -- the exact texts of each point
  abbrev pub exact_entry : List (Pair N) → Entry
  exact_entry coords =
      entry (codes "fx:vertices_coords")
      (values.Exact (map (λ p. (exact_text_of k (parts p.x), exact_text_of k (parts p.y))) coords))

  -- exact texts stand beside the nine decimals where these aren't exact themselves
  abbrev pub exact_entries : Bool → List (Pair N) → List Entry
  exact_entries nine coords = if nine then [] else (exact_entry coords ∷ [])

  abbrev pub vertex_entries : List (List ℕ × List ℕ) → Bool → List (Pair N) → List Entry
  vertex_entries texts nine coords = coords_entry texts ∷ exact_entries nine coords

  -- these are the entries of the vertices
  abbrev pub AreVertexEntries : List (Pair N) → List Entry → Type 0
  AreVertexEntries coords entries =
      (texts : List (List ℕ × List ℕ)) × (nine : Bool) × AllZip AreNineTexts coords texts
      × (IsTrue nine ↔ AllByRecursion (AreNineDecimals parts) coords)
      × (entries ≡ vertex_entries texts nine coords)

  -- the file of a drawing: what it is, its vertices, its edges, and its faces and their orders where
  -- they are given
  abbrev pub IsDrawingFile : List ℕ → Ends N → Option (List Face) → Option (List FaceOrder) → FoldFile → Type 0
  IsDrawingFile class ends faces orders file =
      (vertices : List Entry) × AreVertexEntries ends.coords vertices
      × (file ≡ file_of (head_entries class ++ vertices ++ edge_entries ends.edges
      ++ face_entries faces ++ order_entries orders))

  -- ---- as CP lines

  -- the line of an edge between points with these texts
  abbrev pub line_between : List (List ℕ × List ℕ) → Edge → CpLine
  line_between texts edge = line_of (map (λ t. t.0 ∷ t.1 ∷ []) texts) ((edge.from, edge.to), edge.letter)

  -- the lines of the edges, in their order, their ends rounded to nine decimals
  abbrev pub AreDrawingLines : Ends N → List CpLine → Type 0
  AreDrawingLines ends lines =
      (texts : List (List ℕ × List ℕ)) × AllZip AreNineTexts ends.coords texts
      × (lines ≡ map (line_between texts) ends.edges)
