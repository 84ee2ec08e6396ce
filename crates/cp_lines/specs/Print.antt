-- CP text as it is printed: single spaces, and a line feed after each line
use Rattle.std.specs.Prelude.{ℕ, ◌+◌, ◌≤◌, List, [], ◌∷◌, ◌++◌}
use Rattle.std.specs.List.{flat_map}
use Rattle.json_tree.specs.Number.{IsNumber}
use Rattle.cp_lines.specs.declared.line.CpLine.{CpLine}

-- a line whose kind has a digit, and whose numbers are numbers, as their type says of each that a
-- program holds
pub record IsPrintable (l : CpLine) : Type 0 where
  pub kind : l.kind ≤ 4
  pub x1 : IsNumber l.x1
  pub y1 : IsNumber l.y1
  pub x2 : IsNumber l.x2
  pub y2 : IsNumber l.y2

-- a number after a space
abbrev pub spaced : List ℕ → List ℕ
spaced n = 32 ∷ n

-- a line as it is printed, with its line feed
abbrev pub printed_line : CpLine → List ℕ
printed_line l = (l.kind + 48) ∷ [] ++ spaced l.x1 ++ spaced l.y1 ++ spaced l.x2 ++ spaced l.y2
    ++ 10 ∷ []

-- the printed text of lines
abbrev pub printed_form : List CpLine → List ℕ
printed_form lines = flat_map printed_line lines
