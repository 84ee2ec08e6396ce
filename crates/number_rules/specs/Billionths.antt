-- Texts whose value is a whole number of billionths.
use Rattle.std.specs.Prelude.{◌≡◌, ℕ, ℤ, pos, ◌*◌, ◌^◌, ◌*ℤ◌, List}
use Rattle.number_rules.specs.Nine.{billion}
use Rattle.number_rules.specs.Value.{numerator, denominator, above_zero, below_zero}

-- the text's value is so many billionths
abbrev pub HasBillionths : List ℕ → ℤ → Type 0
HasBillionths text count = numerator text *ℤ pos billion ≡ count *ℤ pos (denominator text)

-- n times ten to this power is a whole number
abbrev pub IsSize : ℕ → ℤ → ℕ → Type 0
IsSize n power whole = n * 10 ^ above_zero power ≡ whole * 10 ^ below_zero power
