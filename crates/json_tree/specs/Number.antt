-- the text of a number, in the words of RFC 8259, section 6
use Rattle.std.specs.Prelude.{◌≡◌, ◌⊎◌, ℕ, List, [], ◌∷◌, ◌++◌}
use Rattle.std.specs.Char.{IsAsciiDigit}
use Rattle.std.specs.Int.{IsInRange}
use Rattle.std.specs.List.{AllByRecursion}

-- a digit from 1 to 9
abbrev pub IsDigit1To9 : ℕ → Type 0
IsDigit1To9 b = IsInRange 49 57 b

-- digits, in any number
abbrev pub AreDigits : List ℕ → Type 0
AreDigits text = AllByRecursion IsAsciiDigit text

-- a minus, or nothing
abbrev pub IsMinusOrNone : List ℕ → Type 0
IsMinusOrNone text = (text ≡ 45 ∷ []) ⊎ (text ≡ [])

-- `0`, or a digit from 1 to 9 and then digits
abbrev pub IsInt : List ℕ → Type 0
IsInt text = (text ≡ 48 ∷ [])
    ⊎ ((first : ℕ) × (rest : List ℕ) × (text ≡ first ∷ rest) × IsDigit1To9 first × AreDigits rest)

-- digits, at least one
abbrev pub AreSomeDigits : List ℕ → Type 0
AreSomeDigits text = (first : ℕ) × (rest : List ℕ) × (text ≡ first ∷ rest) × IsAsciiDigit first
    × AreDigits rest

-- a point and digits
abbrev pub IsFraction : List ℕ → Type 0
IsFraction text = (digits : List ℕ) × (text ≡ 46 ∷ digits) × AreSomeDigits digits

-- a minus, a plus, or nothing
abbrev pub IsSignOrNone : List ℕ → Type 0
IsSignOrNone text = (text ≡ 45 ∷ []) ⊎ ((text ≡ 43 ∷ []) ⊎ (text ≡ []))

-- `e` or `E`, a sign or nothing, and digits
abbrev pub IsExponent : List ℕ → Type 0
IsExponent text = (e : ℕ) × (sign digits : List ℕ) × (text ≡ e ∷ sign ++ digits)
    × ((e ≡ 101) ⊎ (e ≡ 69)) × IsSignOrNone sign × AreSomeDigits digits

-- a number: a minus or nothing, an int, a fraction or nothing, and an exponent or nothing
abbrev pub IsNumber : List ℕ → Type 0
IsNumber text = (minus int fraction exponent : List ℕ)
    × (text ≡ minus ++ int ++ fraction ++ exponent) × IsMinusOrNone minus × IsInt int
    × (IsFraction fraction ⊎ (fraction ≡ [])) × (IsExponent exponent ⊎ (exponent ≡ []))

-- some number begins with these bytes
abbrev pub BeginsNumber : List ℕ → Type 0
BeginsNumber text = (more : List ℕ) × IsNumber (text ++ more)
