-- Sizes of a ring's numbers, by which a sum or a product is known to be small before it is computed.
use Prim.Native.Nat.{ℕ, ◌+◌, ◌*◌, ◌≤◌}
use lib.IntN.{ℤ}
use Rattle.std.specs.Prelude.{unsigned_abs}
use Rattle.algebra.specs.Ring.{Operations}

-- no whole number is larger than its absolute value, and no sum or product larger than the sum or product of the sizes
pub record IsSize {A : Type 0} (ops : Operations A) (size : A → ℕ) : Type 0 where
  pub size_int : (n : ℤ) → size (ops.int n) ≤ unsigned_abs n
  pub size_neg : (a : A) → size (ops.neg a) ≤ size a
  pub size_add : (a b : A) → size (ops.add a b) ≤ size a + size b
  pub size_sub : (a b : A) → size (ops.sub a b) ≤ size a + size b
  pub size_mul : (a b : A) → size (ops.mul a b) ≤ size a * size b
