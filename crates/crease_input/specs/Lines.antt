-- the vertices and edges of lines
use Rattle.std.specs.Prelude.{◌≡◌, ℕ, ◌+◌, ◌*◌, ◌<◌, ◌≤◌, ◌==◌, List, [], ◌∷◌, ◌++◌, length, map, Result, Ok, Err, if◌then◌else◌}
use Rattle.std.specs.List.{AllByRecursion, AllZip, flat_map}
use Rattle.algebra.specs.LowestTerms.{Parts}
use Rattle.cp_lines.specs.declared.line.CpLine.{CpLine}
use Rattle.fold_base.specs.declared.letter.Letter.{Letter}
use Rattle.fold_base.specs.declared.letter.Letter.TheVariants.{Border, Mountain, Valley, Flat}
use Rattle.number_rules.specs.Rounded.{IsDecimal}
use Rattle.number_rules.specs.Rows.{Reads}
use Rattle.number_rules.specs.declared.decimal.Decimal.{Decimal}
use Rattle.number_rules.specs.declared.unread.Row.{Row}
use Rattle.number_rules.specs.declared.unread.Unread.{Unread}
use Rattle.scaled_plane.specs.declared.drawing.Edge.{Edge}
use Rattle.scaled_plane.specs.declared.drawing.Ends.{Ends}
use Rattle.scaled_plane.specs.declared.point.Pair.{Pair}
use Rattle.crease_input.specs.Points.{firsts, place_in}
use Rattle.crease_input.specs.declared.crease.Crease.{Crease}
use Rattle.crease_input.specs.declared.fault.Axis.{Axis}
use Rattle.crease_input.specs.declared.fault.Axis.TheVariants.{X, Y}
use Rattle.crease_input.specs.declared.fault.InputFault.{InputFault}
use Rattle.crease_input.specs.declared.fault.InputFault.TheVariants as faults

-- ---- lines

-- the letter of a line's kind
abbrev pub letter_of : ℕ → Letter
letter_of kind =
    if kind == 1 then Border else (if kind == 2 then Mountain else (if kind == 3 then Valley else Flat))

-- the texts of the coordinates, end by end, x before y
abbrev pub coordinates : CpLine → List (List ℕ)
coordinates line = line.x1 ∷ line.y1 ∷ line.x2 ∷ line.y2 ∷ []

abbrev pub coordinates_of : List CpLine → List (List ℕ)
coordinates_of lines = flat_map coordinates lines

-- a line can be read: its kind is one of the format's, and its numbers are short enough to be read by
-- their values
pub record IsReadable (line : CpLine) : Type 0 where
  pub kind : line.kind ≤ 4
  pub numbers : AllByRecursion (λ text. length text ≤ 16777216) (coordinates line)

-- ---- by a rule

-- what a rule answers for a text: its function by its own promise, on the decimal of the text, and so
-- by the rule's row
pub record Answers {N : Type 0} (k : ℕ) (parts : N → Parts) (row : Row) (gives : Decimal → Result N Unread → Type 0) (text : List ℕ) (r : Result N Unread) : Type 0 where
  pub decimal : Decimal
  pub of_text : IsDecimal text decimal
  pub kept : gives decimal r
  pub by_row : Reads k parts row decimal r

-- a text has one answer at most
abbrev pub IsOfOne : {N : Type 0} → (List ℕ → Result N Unread → Type 0) → Type 0
IsOfOne {N} answers = (text : List ℕ) (r s : Result N Unread) → answers text r → answers text s → r ≡ s

module _ {N : Type 0} (answers : List ℕ → Result N Unread → Type 0) where
  -- both coordinates of a point are read
  abbrev pub IsPoint : List ℕ → List ℕ → Pair N → Type 0
  IsPoint x y p = answers x (Ok p.x) × answers y (Ok p.y)

  -- the line is read as this crease
  pub record IsCrease (line : CpLine) (crease : Crease N) : Type 0 where
    pub from : IsPoint line.x1 line.y1 crease.from
    pub to : IsPoint line.x2 line.y2 crease.to
    pub letter : crease.letter ≡ letter_of line.kind

  -- the text at this place is the first that isn't read, for this cause
  pub record IsUnreadAt (texts : List (List ℕ)) (place : ℕ) (cause : Unread) : Type 0 where
    pub before : List (List ℕ)
    pub text : List ℕ
    pub after : List (List ℕ)
    pub split : texts ≡ before ++ text ∷ after
    pub count : length before ≡ place
    pub read : AllByRecursion (λ t. (x : N) × answers t (Ok x)) before
    pub refused : answers text (Err cause)

-- x stands before y
abbrev pub place_of_axis : Axis → ℕ
place_of_axis X = 0
place_of_axis Y = 1

-- the place of a coordinate of an end: line i has the ends 2 i and 2 i + 1
abbrev pub place_of : ℕ → Axis → ℕ
place_of vertex axis = 2 * vertex + place_of_axis axis

-- ---- vertices and edges

abbrev pub points : {N : Type 0} → List (Crease N) → List (Pair N)
points creases = flat_map (λ crease. crease.from ∷ crease.to ∷ []) creases

module _ {N : Type 0} (parts : N → Parts) where
  -- the edge of a crease between vertices
  abbrev pub edge_in : List (Pair N) → Crease N → Edge
  edge_in coords crease = record {
    from = place_in parts coords crease.from;
    to = place_in parts coords crease.to;
    letter = crease.letter;
  }

  -- the vertices are the ends of the creases, each once, and each crease is an edge
  abbrev pub ends_of : List (Crease N) → Ends N
  ends_of creases = let coords = firsts parts (points creases) in
      record { coords = coords; edges = map (edge_in coords) creases }

  -- the vertices and edges of lines, or the first coordinate that isn't read
  abbrev pub AnswersEnds : (List ℕ → Result N Unread → Type 0) → List CpLine → Result (Ends N) InputFault → Type 0
  AnswersEnds answers lines (Ok ends) =
      (creases : List (Crease N)) × AllZip (IsCrease answers) lines creases × (ends ≡ ends_of creases)
  AnswersEnds answers lines (Err (faults.Unread vertex axis cause)) =
      IsUnreadAt answers (coordinates_of lines) (place_of vertex axis) cause
  AnswersEnds answers lines (Err (faults.Memory e)) = Unit {0}
  AnswersEnds answers lines (Err fault) = ⊥

-- an edge between two of so many vertices
abbrev pub IsEdgeWithin : ℕ → Edge → Type 0
IsEdgeWithin count edge = (edge.from < count) × (edge.to < count)

-- as many edges as lines, between vertices that are there, no more than the ends of lines
pub record IsWithin {N : Type 0} (lines : List CpLine) (ends : Ends N) : Type 0 where
  pub edges : length ends.edges ≡ length lines
  pub vertices : length ends.coords ≤ 2 * length lines
  pub each : AllByRecursion (IsEdgeWithin (length ends.coords)) ends.edges

-- ---- steps

module _ {N : Type 0} (answers : List ℕ → Result N Unread → Type 0) where
  -- a text is read, or refused as this coordinate of this end
  abbrev pub AnswersNumber : List ℕ → ℕ → Axis → Result N InputFault → Type 0
  AnswersNumber text vertex axis (Ok x) = answers text (Ok x)
  AnswersNumber text vertex axis (Err (faults.Unread v a cause)) = (v ≡ vertex) × (a ≡ axis) × answers text (Err cause)
  AnswersNumber text vertex axis (Err fault) = ⊥

  abbrev pub AnswersPoint : List ℕ → List ℕ → ℕ → Result (Pair N) InputFault → Type 0
  AnswersPoint x y vertex (Ok p) = IsPoint answers x y p
  AnswersPoint x y vertex (Err (faults.Unread v a cause)) =
      (v ≡ vertex) × IsUnreadAt answers (x ∷ y ∷ []) (place_of_axis a) cause
  AnswersPoint x y vertex (Err fault) = ⊥

  -- the line with this number is read, or the first of its coordinates that isn't is told
  abbrev pub AnswersLine : CpLine → ℕ → Result (Crease N) InputFault → Type 0
  AnswersLine line number (Ok crease) = IsCrease answers line crease
  AnswersLine line number (Err (faults.Unread v a cause)) =
      (place : ℕ) × IsUnreadAt answers (coordinates line) place cause × (place_of v a ≡ 4 * number + place)
  AnswersLine line number (Err fault) = ⊥
