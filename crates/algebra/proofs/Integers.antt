-- The whole numbers, as an ordered ring.
use lib.IntN.{ℤ}
use Rattle.algebra.specs.Order.{int_sign}
use Rattle.algebra.specs.OrderedRing.{OrderedRing}
use Rattle.algebra.specs.Integers.{int_ops}
use Rattle.algebra.proofs.IntegerRing.{int_ring}
use Rattle.algebra.proofs.IntegerOrder.{int_ordered}

abbrev pub integers : OrderedRing ℤ
integers = record { ops = int_ops; laws = int_ring; sign = int_sign; order = int_ordered }
