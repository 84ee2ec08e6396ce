-- The absolute value is a size of whole numbers.
use native.Mathlib.Omega.{arith}
use Rattle.std.specs.Prelude.{unsigned_abs}
use Rattle.std.proofs.lemmas.Int.{ints, unsigned_abs-mul}
use Rattle.algebra.specs.Size.{IsSize}
use Rattle.algebra.specs.Integers.{int_ops}

pub integers_sized : IsSize int_ops unsigned_abs
integers_sized = record {
  size_int = λ n. omega arith;
  size_neg = λ a. omega (arith, ints);
  size_add = λ a b. omega (arith, ints);
  size_sub = λ a b. omega (arith, ints);
  size_mul = λ a b. omega (arith, unsigned_abs-mul a b);
}
