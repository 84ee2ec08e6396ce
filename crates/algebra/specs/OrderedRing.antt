-- An ordered commutative ring as one thing: `K.add`, `K.mul_comm` and `K.sign` name its operations, laws and signs.
use Rattle.std.specs.declared.cmp.Ordering.{Ordering}
use Rattle.algebra.specs.Ring.{Operations, IsRing}
use Rattle.algebra.specs.Order.{IsOrdered}

pub record OrderedRing (A : Type 0) : Type 0 where
  pub ops : Operations A
  pub open ops use *
  pub laws : IsRing ops
  pub open laws use *
  pub sign : A → Ordering
  pub order : IsOrdered ops sign
  pub open order use *
