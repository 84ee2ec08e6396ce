-- What a rule keeps: a function that reads by its row.
use Rattle.std.specs.Prelude.{ℕ, Result}
use Rattle.algebra.specs.LowestTerms.{Parts}
use Rattle.number_rules.specs.Rounded.{IsReadable}
use Rattle.number_rules.specs.Rows.{Reads}
use Rattle.number_rules.specs.declared.decimal.Decimal.{Decimal}
use Rattle.number_rules.specs.declared.unread.Unread.{Unread}
use Rattle.number_rules.specs.declared.unread.Row.{Row}

-- a function, by what it may be called on and what it answers, reads by a row of the table
pub record KeepsItsRow {N : Type 0} (k : ℕ) (parts : N → Parts) (row : Row) (may : Decimal → Type 0) (gives : Decimal → Result N Unread → Type 0) : Type 0 where
  pub callable : (d : Decimal) → IsReadable d → may d
  pub answers : (d : Decimal) (r : Result N Unread) → IsReadable d → gives d r → Reads k parts row d r
