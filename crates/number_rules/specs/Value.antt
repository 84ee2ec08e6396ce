-- The value of a number text: its digits as a whole number, over a power of ten for the places
-- behind the point, times a power of ten for the exponent.
use Rattle.std.specs.Prelude.{ℕ, ℤ, pos, negsuc, suc, neg_ℤ, ◌+◌, ◌-◌, ◌*◌, ◌^◌, ◌*ℤ◌, ◌==◌, ◌||◌, Bool, false, cond, List, [], ◌∷◌, if◌then◌else◌}
use Rattle.std.specs.Char.{is_ascii_digit}

-- `e` or `E`
abbrev pub is_e : ℕ → Bool
is_e b = b == 101 || b == 69

-- the bytes before the `e`
abbrev pub mantissa : List ℕ → List ℕ
mantissa [] = []
mantissa (b ∷ text) = if is_e b then [] else (b ∷ mantissa text)

-- the bytes behind the `e`
abbrev pub exponent : List ℕ → List ℕ
exponent [] = []
exponent (b ∷ text) = if is_e b then text else exponent text

-- a number with one more digit; other bytes change nothing
abbrev pub with_digit : ℕ → ℕ → ℕ
with_digit n b = if is_ascii_digit b then 10 * n + (b - 48) else n

-- a number with the digits among these bytes after its own
abbrev pub with_digits : ℕ → List ℕ → ℕ
with_digits n [] = n
with_digits n (b ∷ text) = with_digits (with_digit n b) text

-- the number that the digits among these bytes spell
abbrev pub spelled : List ℕ → ℕ
spelled text = with_digits 0 text

abbrev pub begins_with_minus : List ℕ → Bool
begins_with_minus [] = false
begins_with_minus (b ∷ _) = b == 45

abbrev pub with_sign : Bool → ℕ → ℤ
with_sign negative n = cond negative (neg_ℤ (pos n)) (pos n)

-- the number that these bytes spell with their sign
abbrev pub signed : List ℕ → ℤ
signed text = with_sign (begins_with_minus text) (spelled text)

-- a count with one more byte
abbrev pub with_count : ℕ → ℕ → ℕ
with_count n b = if is_ascii_digit b then n + 1 else n

-- how many digits are among these bytes
abbrev pub count_digits : List ℕ → ℕ
count_digits [] = 0
count_digits (b ∷ text) = if is_ascii_digit b then 1 + count_digits text else count_digits text

-- how many digits stand behind the point
abbrev pub places : List ℕ → ℕ
places [] = 0
places (b ∷ text) = if b == 46 then count_digits text else places text

-- a number above zero, and 0 for one below
abbrev pub above_zero : ℤ → ℕ
above_zero (pos n) = n
above_zero (negsuc _) = 0

-- how far below zero a number is, and 0 for one above
abbrev pub below_zero : ℤ → ℕ
below_zero (pos _) = 0
below_zero (negsuc n) = suc n

-- the value is numerator / denominator
abbrev pub numerator : List ℕ → ℤ
numerator text = signed (mantissa text) *ℤ pos (10 ^ above_zero (signed (exponent text)))

abbrev pub denominator : List ℕ → ℕ
denominator text = 10 ^ (below_zero (signed (exponent text)) + places (mantissa text))
