-- What a row of the table reads of a text.
use Rattle.std.specs.Prelude.{◌≡◌, ℕ, ◌<◌, ◌≤◌, ◌⊎◌, List, Result, Ok}
use Rattle.algebra.specs.LowestTerms.{Parts}
use Rattle.number_rules.specs.Rounded.{IsDecimal}
use Rattle.number_rules.specs.Rows.{Reads, denominator_of, tolerance_of}
use Rattle.number_rules.specs.Value.{denominator, numerator}
use Rattle.number_rules.specs.Within.{IsWithin}
use Rattle.number_rules.specs.declared.decimal.Decimal.{Decimal}
use Rattle.number_rules.specs.declared.unread.Unread.{Unread}
use Rattle.number_rules.specs.declared.unread.Row.{Row}
use Rattle.number_rules.specs.declared.unread.Row.TheVariants.{Exact, Grid, Root}

-- a row of roots is for the numbers over √2 or over √3, the others are for all numbers
abbrev pub IsFor : ℕ → Row → Type 0
IsFor k Exact = Unit
IsFor k (Grid n) = Unit
IsFor k (Root n) = (k ≡ 2) ⊎ (k ≡ 3)

-- a row of the table at numbers over √k, whose denominator is one that can be named
pub record IsRow (k : ℕ) (row : Row) : Type 0 where
  pub above_zero : 0 < denominator_of row
  pub at_most_a_million : denominator_of row ≤ 1000000
  pub numbers : IsFor k row

-- what a text is read as by a row: what the row answers for the text's decimal
module _ {N : Type 0} (k : ℕ) (parts : N → Parts) (row : Row) where
  abbrev pub ReadsText : List ℕ → Result N Unread → Type 0
  ReadsText text r = (d : Decimal) × (IsDecimal text d × Reads k parts row d r)

  -- a number that is read of a text lies within the row's tolerance of the text's value
  abbrev pub ReadsNear : Type 0
  ReadsNear = (text : List ℕ) (x : N) → ReadsText text (Ok x)
      → IsWithin k (parts x) (numerator text) (denominator text) (tolerance_of row)
