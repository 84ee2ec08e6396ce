use Rattle.algebra.specs.Integers.{int_ops}
use Rattle.algebra.proofs.IntegerRing.{int_ring}
use Rattle.algebra.proofs.SurdRing.{surd_ring}
use Rattle.algebra.proofs.Surds.{surds_ordered, two_nonsquare, three_nonsquare}
use Rattle.algebra.proofs.fields.surd_laws.Goals as goal

pub returns-clause-ring : goal.returns-clause-ring
returns-clause-ring c = surd_ring int_ops int_ring

pub returns-clause-order : goal.returns-clause-order
returns-clause-order c = surds_ordered

pub returns-clause-two : goal.returns-clause-two
returns-clause-two c = two_nonsquare

pub returns-clause-three : goal.returns-clause-three
returns-clause-three c = three_nonsquare
