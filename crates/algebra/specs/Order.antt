-- Ordered commutative rings, by the sign of each number: below zero `Less`, zero `Equal`, above zero `Greater`.
use mathlib.Core.Path.{◌≡◌}
use Prim.Native.Nat.{zero, suc}
use lib.IntN.{ℤ, pos, negsuc}
use Rattle.std.specs.declared.cmp.Ordering.{Ordering}
use Rattle.std.specs.declared.cmp.Ordering.TheVariants.{Less, Equal, Greater}
use Rattle.std.specs.Ordering.{ordering_reverse}
use Rattle.algebra.specs.Ring.{Operations}

-- the sign of a whole number
abbrev pub int_sign : ℤ → Ordering
int_sign (pos zero) = Equal
int_sign (pos (suc n)) = Greater
int_sign (negsuc n) = Less

-- the sign of a product, from the signs of its factors
abbrev pub product_sign : Ordering → Ordering → Ordering
product_sign Less s = ordering_reverse s
product_sign Equal s = Equal
product_sign Greater s = s

-- the signs order the ring: only zero has the sign of zero, and sums of equal signs and products have the signs that they should
pub record IsOrdered {A : Type 0} (ops : Operations A) (sign : A → Ordering) : Type 0 where
  pub sign_int : (n : ℤ) → sign (ops.int n) ≡ int_sign n
  pub sign_zero : (a : A) → sign a ≡ Equal → a ≡ ops.int (pos 0)
  pub sign_mul : (a b : A) → sign (ops.mul a b) ≡ product_sign (sign a) (sign b)
  pub sign_add : (s : Ordering) (a b : A) → sign a ≡ s → sign b ≡ s → sign (ops.add a b) ≡ s
