use Rattle.algebra.proofs.Numbers.{numbers, number_once, holds_numbers}
use Rattle.algebra.proofs.fields.number_laws.Goals as goal

pub returns-clause-field : goal.returns-clause-field
returns-clause-field g c = numbers

pub returns-clause-numbers : goal.returns-clause-numbers
returns-clause-numbers g c = holds_numbers

pub returns-clause-once : goal.returns-clause-once
returns-clause-once g c = number_once
