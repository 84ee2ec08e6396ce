-- a strip of unit squares in a row, folded to and fro at each line between two of them
use Rattle.std.specs.Prelude.{ℕ, ℤ, pos, negsuc, ◌+◌, ◌-◌, ◌*◌, ◌%◌, ◌==◌, List, [], ◌∷◌, ◌++◌, map, Some, codes, if◌then◌else◌}
use Rattle.std.specs.List.{flat_map, range_with_len}
use Rattle.fold_base.specs.declared.letter.Letter.{Letter}
use Rattle.fold_base.specs.declared.letter.Letter.TheVariants.{Border, Mountain, Valley}
use Rattle.fold_keys.specs.declared.value.FaceOrder.{FaceOrder}
use Rattle.fold_keys.specs.declared.value.FoldFile.{FoldFile}
use Rattle.rational.specs.Rationals.{rational_numbers, rational_parts}
use Rattle.rational.specs.declared.rational.Rational.{Rational}
use Rattle.scaled_plane.specs.declared.drawing.Edge.{Edge}
use Rattle.scaled_plane.specs.declared.drawing.Ends.{Ends}
use Rattle.scaled_plane.specs.declared.drawing.Face.{Face}
use Rattle.scaled_plane.specs.declared.point.Pair.{Pair}
use Rattle.crease_input.specs.Files.{IsDrawingFile}

-- the point with these whole coordinates
abbrev pub corner_at : ℕ → ℕ → Pair Rational
corner_at x y = record { x = rational_numbers.int (pos x); y = rational_numbers.int (pos y) }

-- the corners of n squares at one height
abbrev pub row_at : ℕ → ℕ → List (Pair Rational)
row_at n height = map (λ i. corner_at i height) (range_with_len 0 (n + 1))

-- the bottom row from the left, and then the top row
abbrev pub strip_coords : ℕ → List (Pair Rational)
strip_coords n = row_at n 0 ++ row_at n 1

abbrev pub edge_of : ℕ → ℕ → Letter → Edge
edge_of from to letter = record { from = from; to = to; letter = letter }

-- the edges of n squares along a row that begins with this vertex
abbrev pub along : ℕ → ℕ → List Edge
along n first = map (λ i. edge_of (first + i) (first + i + 1) Border) (range_with_len 0 n)

-- a valley at each odd place, and a mountain at each even one
abbrev pub letter_at : ℕ → Letter
letter_at i = if i % 2 == 1 then Valley else Mountain

-- the line between two squares, from the bottom to the top
abbrev pub crease_at : ℕ → ℕ → Edge
crease_at n i = edge_of i (n + 1 + i) (letter_at i)

-- the bottom and the top, the left and the right end, and then the creases
abbrev pub strip_edges : ℕ → List Edge
strip_edges n =
    along n 0 ++ along n (n + 1)
    ++ edge_of 0 (n + 1) Border ∷ edge_of n (2 * n + 1) Border ∷ map (crease_at n) (range_with_len 1 (n - 1))

-- a square, counterclockwise from its corner at the left of the bottom
abbrev pub square_at : ℕ → ℕ → Face
square_at n i = record { corners = i ∷ (i + 1) ∷ (n + 2 + i) ∷ (n + 1 + i) ∷ [] }

abbrev pub strip_faces : ℕ → List Face
strip_faces n = map (square_at n) (range_with_len 0 n)

-- a later square lies above an earlier one: on the side of its normal where that one isn't turned
-- over, which is so at even places
abbrev pub side_of : ℕ → ℤ
side_of i = if i % 2 == 0 then pos 1 else negsuc 0

abbrev pub order_of : ℕ → ℕ → FaceOrder
order_of i j = record { first = j; second = i; side = side_of i }

-- the orders of one square and each later one
abbrev pub orders_on : ℕ → ℕ → List FaceOrder
orders_on n i = map (order_of i) (range_with_len (i + 1) (n - (i + 1)))

abbrev pub strip_orders : ℕ → List FaceOrder
strip_orders n = flat_map (orders_on n) (range_with_len 0 n)

-- the strip of n squares
abbrev pub strip_ends : ℕ → Ends Rational
strip_ends n = record { coords = strip_coords n; edges = strip_edges n }

-- this is the file of the strip of n squares with its faces and with an order for each two of them
abbrev pub IsStrip : ℕ → FoldFile → Type 0
IsStrip n file =
    IsDrawingFile 1 rational_parts (codes "creasePattern") (strip_ends n) (Some (strip_faces n)) (Some (strip_orders n)) file
