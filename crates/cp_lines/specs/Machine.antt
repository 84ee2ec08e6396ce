-- CP text read byte by byte: what each byte makes of a reader, where it can stand there
use Rattle.std.specs.Prelude.{ℕ, ◌-◌, ◌==◌, ◌||◌, nat_lt, List, [], ◌∷◌, ◌++◌, length, Option, Some, None, option_map, option_and_then, if◌then◌else◌}
use Rattle.std.specs.Int.{is_in_range}
use Rattle.json_tree.specs.Scan.{begins_number, is_number}
use Rattle.cp_lines.specs.declared.line.CpLine.{CpLine}
use Rattle.cp_lines.specs.declared.reader.Reader.{Reader}
use Rattle.cp_lines.specs.declared.reader.Phase.{Phase}
use Rattle.cp_lines.specs.declared.reader.Phase.TheVariants.{Fresh, Kind, Gap, Number, Returned}
use Rattle.cp_lines.specs.declared.reader.ByteClass.{ByteClass}
use Rattle.cp_lines.specs.declared.reader.ByteClass.TheVariants.{Blank, LineFeed, Return, Other}

-- what a byte is for lines
abbrev pub class_of : ℕ → ByteClass
class_of b =
    if b == 32 || b == 9 then Blank else
    if b == 10 then LineFeed else
    if b == 13 then Return else
    Other

-- nothing has been read
abbrev pub start : Reader
start = record { lines = []; kind = 0; numbers = []; number = []; phase = Fresh }

-- the line of a kind and four numbers
abbrev pub line_of : ℕ → List (List ℕ) → Option CpLine
line_of kind (x1 ∷ y1 ∷ x2 ∷ y2 ∷ []) = Some (record { kind = kind; x1 = x1; y1 = y1; x2 = x2; y2 = y2 })
line_of kind _ = None

-- the number in hand put to those of the line, where it is whole
abbrev pub closed : Reader → Option Reader
closed s = if is_number s.number then Some (record s {
  numbers = s.numbers
      ++ s.number ∷ [];
  number = [];
  phase = Gap;
}) else None

-- a line made of the kind and the numbers, where these are four
abbrev pub with_line : Reader → Option Reader
with_line s = option_map (λ l. record s {
  lines = s.lines
      ++ l ∷ [];
  numbers = [];
  phase = Fresh;
}) (line_of s.kind s.numbers)

-- the line ended, where it may end
abbrev pub ended : Reader → Phase → Option Reader
ended s Fresh = Some s
ended s Kind = None
ended s Gap = with_line s
ended s Number = option_and_then with_line (closed s)
ended s Returned = None

-- after a blank
abbrev pub at_blank : Reader → Phase → Option Reader
at_blank s Fresh = Some s
at_blank s Kind = Some (record s { phase = Gap })
at_blank s Gap = Some s
at_blank s Number = closed s
at_blank s Returned = None

-- after a line feed, which ends the line or follows the return that did
abbrev pub at_line_feed : Reader → Phase → Option Reader
at_line_feed s Returned = Some (record s { phase = Fresh })
at_line_feed s phase = ended s phase

-- after a return, which ends the line where a line feed follows
abbrev pub at_return : Reader → Phase → Option Reader
at_return s phase = option_map {T = Reader} {U = Reader} (λ t. record t { phase = Returned }) (ended s phase)

-- after a byte that some number has there
abbrev pub at_number_byte : Reader → ℕ → Option Reader
at_number_byte s b =
    if begins_number (s.number ++ b ∷ []) then
    Some (record s { number = s.number ++ b ∷ []; phase = Number }) else
    None

-- after a byte that is the kind or part of a number
abbrev pub at_other : Reader → ℕ → Phase → Option Reader
at_other s b Fresh =
    if is_in_range 48 52 b then Some (record s { kind = b - 48; phase = Kind }) else
    None
at_other s b Kind = None
at_other s b Gap = if nat_lt (length s.numbers) 4 then at_number_byte s b else None
at_other s b Number = at_number_byte s b
at_other s b Returned = None

-- after a byte of this class
abbrev pub by_class : Reader → ℕ → ByteClass → Option Reader
by_class s b Blank = at_blank s s.phase
by_class s b LineFeed = at_line_feed s s.phase
by_class s b Return = at_return s s.phase
by_class s b Other = at_other s b s.phase

-- after one more byte, where it can stand there
abbrev pub step : Reader → ℕ → Option Reader
step s b = by_class s b (class_of b)

-- the lines, where the text may end
abbrev pub finish : Reader → Option (List CpLine)
finish s = option_map {T = Reader} (λ t. t.lines) (ended s s.phase)
