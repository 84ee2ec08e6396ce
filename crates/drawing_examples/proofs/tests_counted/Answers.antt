use Rattle.std.proofs.Common.{refl}
use Rattle.drawing_examples.proofs.Counted.{none_tested}
use Rattle.drawing_examples.proofs.tests_counted.Goals as goal

pub returns-clause-diagonals : goal.returns-clause-diagonals
returns-clause-diagonals c = refl

pub returns-clause-uprights : goal.returns-clause-uprights
returns-clause-uprights c = none_tested
