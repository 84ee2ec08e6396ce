-- blanks between the parts of a JSON text: space, tab, line feed and carriage return (RFC 8259,
-- section 2)
use Rattle.std.specs.Prelude.{◌≡◌, ◌⊎◌, ℕ, List}
use Rattle.std.specs.List.{AllByRecursion}

abbrev pub IsBlank : ℕ → Type 0
IsBlank b = (b ≡ 32) ⊎ ((b ≡ 9) ⊎ ((b ≡ 10) ⊎ (b ≡ 13)))

abbrev pub AreBlanks : List ℕ → Type 0
AreBlanks text = AllByRecursion IsBlank text
