-- |a| + m |b| is a size of the numbers a + b√k, where k is at most m².
use Prim.Native.Nat.{ℕ, ◌+◌, ◌*◌, ◌≤◌}
use mathlib.Core.Path.{ap}
use native.Mathlib.Nat.{mul-le-mul_right, mul-le-mul_left}
use native.Mathlib.Omega.{arith}
use lib.IntN.{ℤ, pos, ◌+ℤ◌, ◌-ℤ◌, ◌*ℤ◌, neg_ℤ}
use Rattle.std.specs.Prelude.{unsigned_abs}
use Rattle.std.proofs.lemmas.Int.{ints, unsigned_abs-mul}
use Rattle.algebra.specs.Integers.{int_ops}
use Rattle.algebra.specs.Size.{IsSize}
use Rattle.algebra.specs.Surd.{Surd, surd_ops}
use Rattle.algebra.specs.SurdSize.{surd_size}

module _ (k m : ℕ) (k_at_most : k ≤ m * m) where
  sum_bound : (a b : ℤ) → unsigned_abs (a +ℤ b) ≤ unsigned_abs a + unsigned_abs b
  sum_bound a b = omega (arith, ints)

  first_bound : (x y : Surd ℤ) → unsigned_abs (x.a *ℤ y.a +ℤ pos k *ℤ (x.b *ℤ y.b)) ≤ unsigned_abs x.a * unsigned_abs y.a + m * m * (unsigned_abs x.b * unsigned_abs y.b)
  first_bound x y =
      omega (
        arith,
        sum_bound (x.a *ℤ y.a) (pos k *ℤ (x.b *ℤ y.b)),
        unsigned_abs-mul x.a y.a,
        unsigned_abs-mul (pos k) (x.b *ℤ y.b),
        ap (λ (t : ℕ). m * m * t) (unsigned_abs-mul x.b y.b),
        mul-le-mul_right (unsigned_abs (x.b *ℤ y.b)) k_at_most,
      )

  second_bound : (x y : Surd ℤ) → unsigned_abs (x.a *ℤ y.b +ℤ x.b *ℤ y.a) ≤ unsigned_abs x.a * unsigned_abs y.b + unsigned_abs x.b * unsigned_abs y.a
  second_bound x y = omega (arith, sum_bound (x.a *ℤ y.b) (x.b *ℤ y.a), unsigned_abs-mul x.a y.b, unsigned_abs-mul x.b y.a)

  neg_size : (a : ℤ) → unsigned_abs (neg_ℤ a) ≤ unsigned_abs a
  neg_size a = omega (arith, ints)

  difference_bound : (a b : ℤ) → unsigned_abs (a -ℤ b) ≤ unsigned_abs a + unsigned_abs b
  difference_bound a b = omega (arith, ints)

  pub surd_sized : IsSize (surd_ops int_ops (pos k)) (surd_size m)
  surd_sized = record {
    size_int = λ n. omega arith;
    size_neg = λ x. omega (arith, neg_size x.a, mul-le-mul_left m (neg_size x.b));
    size_add = λ x y. omega (arith, sum_bound x.a y.a, mul-le-mul_left m (sum_bound x.b y.b));
    size_sub = λ x y. omega (arith, difference_bound x.a y.a, mul-le-mul_left m (difference_bound x.b y.b));
    size_mul = λ x y. omega (arith, first_bound x y, mul-le-mul_left m (second_bound x y));
  }
