-- Whole numbers in plain digits, read byte by byte, and the commas between them.
use Rattle.std.specs.Prelude.{ℕ, ◌+◌, ◌*◌, ◌-◌, ◌^◌, ◌∷◌, [], List, ◌≤◌, ◌==◌, nat_le, ◌&&◌, not, if◌then◌else◌, Option, Some, None}
use Rattle.std.specs.Char.{is_ascii_digit}
use Rattle.number_rules.specs.declared.whole_text.Digits.{Digits}
use Rattle.number_rules.specs.declared.whole_text.Digits.TheVariants.{Nothing, Number, Other}

-- the largest size of a whole number
abbrev pub most : ℕ
most = 2 ^ 92

-- a number that is kept is at most that
abbrev pub IsKept : Digits → Type 0
IsKept Nothing = Unit
IsKept (Number n) = n ≤ most
IsKept Other = Unit

-- a number, unless it is too large
abbrev pub number_up_to_most : ℕ → Digits
number_up_to_most n = if nat_le n most then Number n else Other

-- the digits with one more byte behind them: none stands behind a 0
abbrev pub with_byte : Digits → ℕ → Digits
with_byte Nothing b = if is_ascii_digit b then Number (b - 48) else Other
with_byte (Number n) b =
    if is_ascii_digit b && not (n == 0) then number_up_to_most (10 * n + (b - 48)) else Other
with_byte Other b = Other

-- the digits with more bytes behind them
abbrev pub with_bytes : Digits → List ℕ → Digits
with_bytes digits [] = digits
with_bytes digits (b ∷ text) = with_bytes (with_byte digits b) text

-- the bytes before the first comma
abbrev pub before_comma : List ℕ → List ℕ
before_comma [] = []
before_comma (b ∷ text) = if b == 44 then [] else (b ∷ before_comma text)

-- the bytes behind it, where there is one
abbrev pub behind_comma : List ℕ → Option (List ℕ)
behind_comma [] = None
behind_comma (b ∷ text) = if b == 44 then Some text else behind_comma text
