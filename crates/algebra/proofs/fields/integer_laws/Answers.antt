use Rattle.algebra.proofs.IntegerRing.{int_ring}
use Rattle.algebra.proofs.IntegerOrder.{int_ordered, compared, compared_with_zero}
use Rattle.algebra.proofs.fields.integer_laws.Goals as goal

pub returns-clause-ring : goal.returns-clause-ring
returns-clause-ring c = int_ring

pub returns-clause-order : goal.returns-clause-order
returns-clause-order c = int_ordered

pub returns-clause-compared : goal.returns-clause-compared
returns-clause-compared c = compared

pub returns-clause-compared_with_zero : goal.returns-clause-compared_with_zero
returns-clause-compared_with_zero c = compared_with_zero
