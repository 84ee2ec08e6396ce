-- how long the numbers of a line are
use Rattle.std.specs.Prelude.{ℕ, ◌≤◌, length}
use Rattle.cp_lines.specs.declared.line.CpLine.{CpLine}

-- no number of the line has more bytes
abbrev pub HasNumbersUpTo : ℕ → CpLine → Type 0
HasNumbersUpTo most line =
    (length line.x1 ≤ most) × (length line.y1 ≤ most) × (length line.x2 ≤ most) × (length line.y2 ≤ most)
