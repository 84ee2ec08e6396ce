-- lines and columns, both counted from 1
use Rattle.std.specs.Prelude.{ℕ, ◌+◌, ◌==◌, List, count_by, not}
use Rattle.std.specs.List.{suffix_len}

-- the line of what comes after these bytes: 1 and their line feeds
abbrev pub line_at : List ℕ → ℕ
line_at front = count_by (λ b. b == 10) front + 1

-- its column: 1 and the bytes after the last line feed
abbrev pub column_at : List ℕ → ℕ
column_at front = suffix_len (λ b. not (b == 10)) front + 1
