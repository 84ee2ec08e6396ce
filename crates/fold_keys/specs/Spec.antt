-- the version of the format that a file says it has
use Rattle.std.specs.Prelude.{ℕ, ◌+◌, ◌*◌, ◌/◌, ◌^◌, nat_lt, ◌&&◌, not, Bool, List}
use Rattle.number_rules.specs.Rounded.{steps_of_one}
use Rattle.number_rules.specs.Value.{mantissa, exponent, spelled, signed, begins_with_minus, above_zero, denominator}

-- the value without its sign is size / denominator
abbrev pub size : List ℕ → ℕ
size text = spelled (mantissa text) * 10 ^ above_zero (signed (exponent text))

-- the value without its sign in steps of 10^-18, rounded half up
abbrev pub steps : List ℕ → ℕ
steps text = (2 * (steps_of_one * size text) + denominator text) / (2 * denominator text)

-- 1.2 in steps
abbrev pub last_version : ℕ
last_version = 12 * 10 ^ 17

-- whether the value, rounded to 18 decimals, is above 1.2
unfoldable pub is_above_spec : List ℕ → Bool
is_above_spec text = not (begins_with_minus (mantissa text)) && nat_lt last_version (steps text)
