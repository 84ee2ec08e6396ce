use Rattle.algebra.proofs.Numbers.{whole_surds, holds_whole_numbers, holds_surds}
use Rattle.algebra.proofs.fields.whole_number_laws.Goals as goal

pub returns-clause-ring : goal.returns-clause-ring
returns-clause-ring g c = whole_surds

pub returns-clause-whole_numbers : goal.returns-clause-whole_numbers
returns-clause-whole_numbers g c = holds_whole_numbers

pub returns-clause-surds : goal.returns-clause-surds
returns-clause-surds g c = holds_surds
