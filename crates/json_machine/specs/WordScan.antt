-- the characters of a word read byte by byte
use Rattle.std.specs.Prelude.{ℕ, zero, suc, ◌+◌, ◌-◌, ◌*◌, ◌==◌, ◌||◌, nat_lt, nat_le, List, [], ◌++◌, Bool, true, false, Option, Some, None, option_map, if◌then◌else◌, encode_utf8}
use Rattle.std.specs.Char.{digit_value}
use Rattle.std.specs.Int.{is_in_range}
use Rattle.json_tree.specs.Word.{escaped_by}

-- how far a character has been read; `Character later low high code`: in the UTF-8 of one, the next
-- byte from low to high, after that so many more, and the value of its bytes so far; `Unit1` to
-- `Unit3`: so many hexadecimal digits after `\u`, and their value; `High` and what follows: after
-- the first half of a surrogate pair, `Low1` to `Low3` so many digits of the second half
pub data WordPart : Type 0 where
  Between : WordPart
  Character : ℕ → ℕ → ℕ → ℕ → WordPart
  Escape : WordPart
  Unit0 : WordPart
  Unit1 : ℕ → WordPart
  Unit2 : ℕ → WordPart
  Unit3 : ℕ → WordPart
  High : ℕ → WordPart
  LowEscape : ℕ → WordPart
  Low0 : ℕ → WordPart
  Low1 : ℕ → WordPart
  Low2 : ℕ → ℕ → WordPart
  Low3 : ℕ → ℕ → WordPart

-- the text of the characters that are done, in UTF-8, and how far the next is
pub record WordState : Type 0 where
  pub word : List ℕ
  pub part : WordPart

abbrev pub word_start : WordState
word_start = record { word = []; part = Between }

abbrev pub in_part : WordState → WordPart → WordState
in_part w part = record w { part = part }

-- one character more
abbrev pub put : WordState → ℕ → WordState
put w c = record { word = w.word ++ encode_utf8 c; part = Between }

-- the character of a surrogate pair
abbrev pub paired : ℕ → ℕ → ℕ
paired high low = 65536 + (high - 55296) * 1024 + (low - 56320)

abbrev pub is_high_surrogate : ℕ → Bool
is_high_surrogate unit = is_in_range 55296 56319 unit

-- after the first byte of two, of three and of four; the bounds of the second leave out longer
-- forms, surrogates and what is past U+10FFFF
abbrev pub with_first_of_two : WordState → ℕ → WordState
with_first_of_two w b = in_part w (Character 0 128 191 (b - 192))

abbrev pub with_first_of_three : WordState → ℕ → WordState
with_first_of_three w b = in_part w (Character 1 (if b == 224 then 160 else 128) (if b == 237 then 159 else 191) (b - 224))

abbrev pub with_first_of_four : WordState → ℕ → WordState
with_first_of_four w b = in_part w (Character 2 (if b == 240 then 144 else 128) (if b == 244 then 143 else 191) (b - 240))

abbrev pub first_of_four : WordState → ℕ → Option WordState
first_of_four w b = if is_in_range 240 244 b then Some (with_first_of_four w b) else None

abbrev pub first_of_three : WordState → ℕ → Option WordState
first_of_three w b =
    if is_in_range 224 239 b then Some (with_first_of_three w b) else
    first_of_four w b

abbrev pub lead : WordState → ℕ → Option WordState
lead w b = if is_in_range 194 223 b then Some (with_first_of_two w b) else first_of_three w b

abbrev pub between : WordState → ℕ → Option WordState
between w b =
    if b == 92 then Some (in_part w Escape) else
    if b == 34 || nat_lt b 32 then None else
    if nat_lt b 128 then Some (put w b) else
    lead w b

-- with so many bytes due
abbrev pub with_code : WordState → ℕ → ℕ → WordState
with_code w zero code = put w code
with_code w (suc later) code = in_part w (Character later 128 191 code)

abbrev pub in_character : WordState → ℕ → ℕ → ℕ → ℕ → ℕ → Option WordState
in_character w later low high code b =
    if is_in_range low high b then Some (with_code w later (code * 64 + (b - 128))) else
    None

abbrev pub at_escape : WordState → ℕ → Option WordState
at_escape w b =
    if b == 117 then Some (in_part w Unit0) else
    option_map (λ c. put w c) (escaped_by b)

-- after a hexadecimal digit of this value
abbrev pub with_digit : (ℕ → Option WordState) → ℕ → Option WordState
with_digit after b = if nat_lt (digit_value b) 16 then after (digit_value b) else None

-- two digits, which begin no second half of a pair
abbrev pub with_two : WordState → ℕ → Option WordState
with_two w value = if is_in_range 220 223 value then None else Some (in_part w (Unit2 value))

-- four digits
abbrev pub with_unit : WordState → ℕ → Option WordState
with_unit w unit =
    if is_high_surrogate unit then Some (in_part w (High unit)) else
    Some (put w unit)

-- the first and the second digit of a second half, which is DC00 to DFFF
abbrev pub with_low_one : WordState → ℕ → ℕ → Option WordState
with_low_one w high digit = if digit == 13 then Some (in_part w (Low1 high)) else None

abbrev pub with_low_two : WordState → ℕ → ℕ → Option WordState
with_low_two w high digit =
    if nat_le 12 digit then Some (in_part w (Low2 high (208 + digit))) else
    None

abbrev pub by_part : WordState → WordPart → ℕ → Option WordState
by_part w Between b = between w b
by_part w (Character later low high code) b = in_character w later low high code b
by_part w Escape b = at_escape w b
by_part w Unit0 b = with_digit (λ d. Some (in_part w (Unit1 d))) b
by_part w (Unit1 value) b = with_digit (λ d. with_two w (value * 16 + d)) b
by_part w (Unit2 value) b = with_digit (λ d. Some (in_part w (Unit3 (value * 16 + d)))) b
by_part w (Unit3 value) b = with_digit (λ d. with_unit w (value * 16 + d)) b
by_part w (High high) b = if b == 92 then Some (in_part w (LowEscape high)) else None
by_part w (LowEscape high) b = if b == 117 then Some (in_part w (Low0 high)) else None
by_part w (Low0 high) b = with_digit (λ d. with_low_one w high d) b
by_part w (Low1 high) b = with_digit (λ d. with_low_two w high d) b
by_part w (Low2 high value) b = with_digit (λ d. Some (in_part w (Low3 high (value * 16 + d)))) b
by_part w (Low3 high value) b = with_digit (λ d. Some (put w (paired high (value * 16 + d)))) b

-- after one more byte of a word, where it can stand there
abbrev pub next_character : WordState → ℕ → Option WordState
next_character w b = by_part w w.part b

-- whether the word may end here
abbrev pub is_between : WordPart → Bool
is_between Between = true
is_between part = false
