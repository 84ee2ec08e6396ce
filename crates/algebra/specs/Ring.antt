-- Commutative rings with a one, by their operations and the laws of these.
use mathlib.Core.Path.{◌≡◌}
use lib.IntN.{ℤ, pos, ◌+ℤ◌, ◌*ℤ◌}

-- the operations: `int` takes each whole number into the ring, so that zero and one are `int 0` and `int 1`
pub record Operations (A : Type 0) : Type 0 where
  pub int : ℤ → A
  pub add : A → A → A
  pub sub : A → A → A
  pub mul : A → A → A
  pub neg : A → A

-- the laws of a commutative ring with a one, in which the whole numbers add and multiply as they do by themselves
pub record IsRing {A : Type 0} (ops : Operations A) : Type 0 where
  pub add_assoc : (a b c : A) → ops.add (ops.add a b) c ≡ ops.add a (ops.add b c)
  pub add_comm : (a b : A) → ops.add a b ≡ ops.add b a
  pub add_zero : (a : A) → ops.add a (ops.int (pos 0)) ≡ a
  pub add_neg : (a : A) → ops.add a (ops.neg a) ≡ ops.int (pos 0)
  pub sub_is : (a b : A) → ops.sub a b ≡ ops.add a (ops.neg b)
  pub mul_assoc : (a b c : A) → ops.mul (ops.mul a b) c ≡ ops.mul a (ops.mul b c)
  pub mul_comm : (a b : A) → ops.mul a b ≡ ops.mul b a
  pub mul_one : (a : A) → ops.mul a (ops.int (pos 1)) ≡ a
  pub mul_add : (a b c : A) → ops.mul a (ops.add b c) ≡ ops.add (ops.mul a b) (ops.mul a c)
  pub int_add : (m n : ℤ) → ops.int (m +ℤ n) ≡ ops.add (ops.int m) (ops.int n)
  pub int_mul : (m n : ℤ) → ops.int (m *ℤ n) ≡ ops.mul (ops.int m) (ops.int n)
