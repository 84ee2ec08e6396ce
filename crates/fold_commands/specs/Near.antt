-- how near to the values of their texts numbers are read
use Rattle.std.specs.Prelude.{ℕ}
use Rattle.algebra.specs.LowestTerms.{Parts}
use Rattle.number_rules.specs.OneReading.{IsRow, ReadsNear}
use Rattle.number_rules.specs.declared.unread.Row.{Row}
use Rattle.rational.specs.Rationals.{rational_parts}
use Rattle.fold_commands.specs.Fields.{parts_over_three, parts_over_two}

-- over one kind of numbers: by each row of the table of rules, what is read of a text lies within the row's tolerance of
-- the text's value
abbrev pub EachReadsNear : {N : Type 0} → ℕ → (N → Parts) → Type 0
EachReadsNear k parts = (row : Row) → IsRow k row → ReadsNear k parts row

-- over each of the numbers that drawings are computed with
pub record AreReadNear : Type 0 where
  pub rational : EachReadsNear 1 rational_parts
  pub over_two : EachReadsNear 2 parts_over_two
  pub over_three : EachReadsNear 3 parts_over_three
