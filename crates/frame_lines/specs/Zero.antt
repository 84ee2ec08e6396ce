-- numbers whose value is 0
use Rattle.std.specs.Prelude.{ℕ, pos, Bool, List}
use Rattle.std.specs.Ordering.{int_eq}
use Rattle.number_rules.specs.Value.{numerator}

-- the value of the number that the text spells is 0
abbrev pub is_zero : List ℕ → Bool
is_zero text = int_eq (numerator text) (pos 0)
