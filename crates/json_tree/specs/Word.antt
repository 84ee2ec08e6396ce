-- words: what stands between two quotes, and the text that it spells (RFC 8259, section 7)
use Rattle.std.specs.Prelude.{◌≡◌, ◌≢◌, ℕ, ◌+◌, ◌-◌, ◌*◌, ◌<◌, ◌≤◌, ◌==◌, List, [], ◌∷◌, ◌++◌, Option, Some, None, if◌then◌else◌, encode_utf8, encode_utf8_all}
use Rattle.std.specs.Char.{IsScalar, digit_value}

-- a character that stands for itself: from U+0020 on, but for the quote and the backslash
pub record IsUnescaped (c : ℕ) : Type 0 where
  pub scalar : IsScalar c
  pub no_control : 32 ≤ c
  pub no_quote : c ≢ 34
  pub no_backslash : c ≢ 92

-- the character that a backslash and this letter stand for: quote, backslash, slash, backspace,
-- form feed, line feed, carriage return, tab
abbrev pub escaped_by : ℕ → Option ℕ
escaped_by e =
    if e == 34 then Some 34 else
    if e == 92 then Some 92 else
    if e == 47 then Some 47 else
    if e == 98 then Some 8 else
    if e == 102 then Some 12 else
    if e == 110 then Some 10 else
    if e == 114 then Some 13 else
    if e == 116 then Some 9 else
    None

-- a hexadecimal digit, of either case
abbrev pub IsHexadecimal : ℕ → Type 0
IsHexadecimal b = digit_value b < 16

-- a backslash, `u` and four hexadecimal digits, and the number of 16 bits that they write
abbrev pub SpellsUnit : List ℕ → ℕ → Type 0
SpellsUnit text unit =
    (a b c d : ℕ) × (text ≡ 92 ∷ 117 ∷ a ∷ b ∷ c ∷ d ∷ []) × IsHexadecimal a × IsHexadecimal b
    × IsHexadecimal c × IsHexadecimal d
    × (unit ≡ ((digit_value a * 16 + digit_value b) * 16 + digit_value c) * 16 + digit_value d)

-- the first and the second half of a surrogate pair
abbrev pub IsHighSurrogate : ℕ → Type 0
IsHighSurrogate unit = (55296 ≤ unit) × (unit < 56320)

abbrev pub IsLowSurrogate : ℕ → Type 0
IsLowSurrogate unit = (56320 ≤ unit) × (unit < 57344)

-- the bytes of one character within a word, and its code point
pub data SpellsCharacter : List ℕ → ℕ → Type 0 where
  itself : {text : List ℕ} {c : ℕ} → IsUnescaped c → text ≡ encode_utf8 c → SpellsCharacter text c
  escaped : {text : List ℕ} {c : ℕ} (letter : ℕ) → escaped_by letter ≡ Some c
      → text ≡ 92 ∷ letter ∷ [] → SpellsCharacter text c
  by_unit : {text : List ℕ} {c : ℕ} → SpellsUnit text c → IsScalar c → SpellsCharacter text c
  by_pair : {text : List ℕ} {c : ℕ} (first second : List ℕ) (high low : ℕ) → SpellsUnit first high
      → IsHighSurrogate high → SpellsUnit second low → IsLowSurrogate low
      → text ≡ first ++ second → c ≡ 65536 + (high - 55296) * 1024 + (low - 56320)
      → SpellsCharacter text c

-- characters one after the other
pub data SpellsCharacters : List ℕ → List ℕ → Type 0 where
  none : SpellsCharacters [] []
  more : {text all : List ℕ} (front last : List ℕ) (cs : List ℕ) (c : ℕ) → SpellsCharacters front cs
      → SpellsCharacter last c
      → text ≡ front ++ last → all ≡ cs ++ c ∷ [] → SpellsCharacters text all

-- a word with its quotes, and the text that it spells in UTF-8
abbrev pub SpellsWord : List ℕ → List ℕ → Type 0
SpellsWord text word = (inner cs : List ℕ) × (text ≡ (34 ∷ []) ++ inner ++ (34 ∷ []))
    × SpellsCharacters inner cs × (word ≡ encode_utf8_all cs)
