-- The whole numbers are a commutative ring.
use mathlib.Core.Path.{◌≡◌, refl, ap}
use native.Mathlib.Omega.{arith}
use borrow.Author.Differences.{ints, up, down, same_in, product_is, sum_is_lem}
use Prim.Native.Nat.{ℕ, ◌+◌, ◌*◌}
use lib.IntN.{ℤ, pos, ◌+ℤ◌, ◌*ℤ◌, neg_ℤ}
use Rattle.algebra.specs.Ring.{IsRing}
use Rattle.algebra.specs.Integers.{int_ops}

up_mul : (a b : ℤ) → up (a *ℤ b) ≡ up a * up b + down a * down b
up_mul a b = (product_is a b).0

down_mul : (a b : ℤ) → down (a *ℤ b) ≡ up a * down b + down a * up b
down_mul a b = (product_is a b).1

mul_assoc : (a b c : ℤ) → (a *ℤ b) *ℤ c ≡ a *ℤ (b *ℤ c)
mul_assoc a b c = same_in ((a *ℤ b) *ℤ c) (a *ℤ (b *ℤ c)) (simp (up_mul, down_mul) (omega arith))

mul_comm : (a b : ℤ) → a *ℤ b ≡ b *ℤ a
mul_comm a b = omega (arith, ints)

mul_add : (a b c : ℤ) → a *ℤ (b +ℤ c) ≡ a *ℤ b +ℤ a *ℤ c
mul_add a b c =
    omega (arith, ints, ap (λ (t : ℕ). up a * t) (sum_is_lem b c), ap (λ (t : ℕ). down a * t) (sum_is_lem b c))

add_assoc : (a b c : ℤ) → (a +ℤ b) +ℤ c ≡ a +ℤ (b +ℤ c)
add_assoc a b c = omega (arith, ints)

add_comm : (a b : ℤ) → a +ℤ b ≡ b +ℤ a
add_comm a b = omega (arith, ints)

add_zero : (a : ℤ) → a +ℤ pos 0 ≡ a
add_zero a = omega (arith, ints)

add_neg : (a : ℤ) → a +ℤ neg_ℤ a ≡ pos 0
add_neg a = omega (arith, ints)

mul_one : (a : ℤ) → a *ℤ pos 1 ≡ a
mul_one a = omega (arith, ints)

pub int_ring : IsRing int_ops
int_ring = record {
  add_assoc = add_assoc;
  add_comm = add_comm;
  add_zero = add_zero;
  add_neg = add_neg;
  sub_is = λ a b. refl;
  mul_assoc = mul_assoc;
  mul_comm = mul_comm;
  mul_one = mul_one;
  mul_add = mul_add;
  int_add = λ m n. refl;
  int_mul = λ m n. refl;
}
