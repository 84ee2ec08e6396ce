-- The numbers a + b√k over the whole numbers, as an ordered ring, for each k that is no square.
use Prim.Native.Nat.{ℕ, zero, suc, ◌*◌, ◌<◌}
use native.Mathlib.Omega.{arith}
use mathlib.Core.Path.{◌≡◌, refl}
use lib.IntN.{ℤ, pos}
use Rattle.std.specs.declared.cmp.Ordering.TheVariants.{Greater}
use Rattle.algebra.specs.Order.{int_sign, IsOrdered}
use Rattle.algebra.specs.OrderedRing.{OrderedRing}
use Rattle.algebra.specs.Integers.{int_ops}
use Rattle.algebra.specs.Surd.{Surd, IsNonsquare, surd_ops, surd_sign}
use Rattle.algebra.proofs.IntegerRing.{int_ring}
use Rattle.algebra.proofs.Integers.{integers}
use Rattle.algebra.proofs.SurdRing.{surd_ring}
use Rattle.algebra.proofs.SurdOrder.{surd_ordered}
use Rattle.algebra.proofs.Nonsquare.{no_square}

above_square : (s k : ℕ) → s * s < k → int_sign (pos k) ≡ Greater
above_square s zero h = absurd (omega arith)
above_square s (suc k) h = refl

pub surds_ordered : (k : ℕ) → IsNonsquare k → IsOrdered (surd_ops int_ops (pos k)) (surd_sign int_ops (pos k) int_sign)
surds_ordered k h =
    surd_ordered integers (pos k) (above_square h.floor k h.above) (no_square h.floor k h.above h.below)

abbrev pub surds : (k : ℕ) → IsNonsquare k → OrderedRing (Surd ℤ)
surds k h = record {
  ops = surd_ops int_ops (pos k);
  laws = surd_ring int_ops int_ring (pos k);
  sign = surd_sign int_ops (pos k) int_sign;
  order = surds_ordered k h;
}

pub two_nonsquare : IsNonsquare 2
two_nonsquare = record { floor = 1; above = omega arith; below = omega arith }

pub three_nonsquare : IsNonsquare 3
three_nonsquare = record { floor = 1; above = omega arith; below = omega arith }
