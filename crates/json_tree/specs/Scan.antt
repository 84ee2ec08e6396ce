-- the text of a number read byte by byte
use Rattle.std.specs.Prelude.{ℕ, ◌==◌, ◌||◌, List, Bool, true, false, Option, Some, None, is_some, if◌then◌else◌}
use Rattle.std.specs.Char.{is_ascii_digit}
use Rattle.std.specs.Int.{is_in_range}
use Rattle.first_fault.specs.Machine.{steps, answer}
use Rattle.json_tree.specs.declared.phase.Phase.{Phase}
use Rattle.json_tree.specs.declared.phase.Phase.TheVariants.{Start, Minus, Zero, Digits, Point, Fraction, Exponent, Sign, ExponentDigits}

-- after the first digit of the int
abbrev pub at_first_digit : ℕ → Option Phase
at_first_digit b = if b == 48 then Some Zero else (if is_in_range 49 57 b then Some Digits else None)

-- after an `e`, which may follow the int and the fraction
abbrev pub at_exponent : ℕ → Option Phase
at_exponent b = if b == 101 || b == 69 then Some Exponent else None

-- after a point or an `e`, which may follow the int
abbrev pub after_int : ℕ → Option Phase
after_int b = if b == 46 then Some Point else at_exponent b

-- after a digit that must follow
abbrev pub at_digit : Phase → ℕ → Option Phase
at_digit phase b = if is_ascii_digit b then Some phase else None

-- after a digit that may follow, or what else the byte is
abbrev pub at_more_digits : Phase → Option Phase → ℕ → Option Phase
at_more_digits phase other b = if is_ascii_digit b then Some phase else other

-- the phase after one more byte
abbrev pub next : Phase → ℕ → Option Phase
next Start b = if b == 45 then Some Minus else at_first_digit b
next Minus b = at_first_digit b
next Zero b = after_int b
next Digits b = at_more_digits Digits (after_int b) b
next Point b = at_digit Fraction b
next Fraction b = at_more_digits Fraction (at_exponent b) b
next Exponent b = if b == 45 || b == 43 then Some Sign else at_digit ExponentDigits b
next Sign b = at_digit ExponentDigits b
next ExponentDigits b = at_digit ExponentDigits b

-- whether the text may end in this phase
abbrev pub is_whole : Phase → Bool
is_whole Start = false
is_whole Minus = false
is_whole Zero = true
is_whole Digits = true
is_whole Point = false
is_whole Fraction = true
is_whole Exponent = false
is_whole Sign = false
is_whole ExponentDigits = true

-- a whole text is a number, and there is nothing else to know of it
abbrev pub finished : Phase → Option (Unit {0})
finished phase = if is_whole phase then Some tt else None

-- the phase after these bytes
abbrev pub phase_after : List ℕ → Option Phase
phase_after text = steps next Start text

-- whether some number begins with these bytes
abbrev pub begins_number : List ℕ → Bool
begins_number text = is_some (phase_after text)

-- whether these bytes are a number
abbrev pub is_number : List ℕ → Bool
is_number text = is_some (answer next finished Start text)
