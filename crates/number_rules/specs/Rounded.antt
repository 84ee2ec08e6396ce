-- A number text as a decimal: its value in steps of 10^-18, rounded half up.
use Rattle.std.specs.Prelude.{◌≡◌, ℕ, ℤ, pos, ◌*◌, ◌^◌, ◌<◌, ◌≤◌, ◌+ℤ◌, ◌*ℤ◌, ◌<ℤ◌, ◌≤ℤ◌, unsigned_abs, IsTrue, IsFalse, Bool, true, false, List, ◌↔◌}
use Rattle.number_rules.specs.Value.{numerator, denominator}
use Rattle.number_rules.specs.declared.decimal.Decimal.{Decimal}

-- r is n / d rounded to a whole number, half up: floor(n / d + 1/2)
abbrev pub IsRounded : ℤ → ℕ → ℤ → Type 0
IsRounded n d r = ((pos 2 *ℤ (r *ℤ pos d)) ≤ℤ (pos 2 *ℤ n +ℤ pos d)) × ((pos 2 *ℤ n +ℤ pos d) <ℤ (pos 2 *ℤ (r *ℤ pos d) +ℤ pos (2 * d)))

-- how many steps a whole number has
abbrev pub steps_of_one : ℕ
steps_of_one = 10 ^ 18

-- what is kept of n / d, rounded to r: r and whether it is n / d, where r is at most 2^62 in steps
abbrev pub Keeps : ℤ → ℕ → ℤ → Bool → ℤ → Bool → Type 0
Keeps n d r true near exact = (2 ^ 62 * steps_of_one < unsigned_abs r) × (near ≡ pos 0) × IsFalse exact
Keeps n d r false near exact = (unsigned_abs r ≤ 2 ^ 62 * steps_of_one) × (near ≡ r) × (IsTrue exact ↔ (n ≡ r *ℤ pos d))

-- the decimal of n / d steps
abbrev pub IsSteps : ℤ → ℕ → Decimal → Type 0
IsSteps n d x = (r : ℤ) × IsRounded n d r × Keeps n d r x.far x.near x.exact

-- the decimal of a text
abbrev pub IsDecimal : List ℕ → Decimal → Type 0
IsDecimal text x = IsSteps (pos steps_of_one *ℤ numerator text) (denominator text) x

-- at most 2^62 in size, as all decimals that are read from texts
abbrev pub IsReadable : Decimal → Type 0
IsReadable d = unsigned_abs d.near ≤ 2 ^ 62 * steps_of_one
