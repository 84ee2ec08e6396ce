-- The numbers a + b√k with whole a and b as the values of any type that holds each of them once.
use Rattle.std.specs.Prelude.{◌≡◌, ℕ, ℤ, pos}
use Rattle.algebra.specs.Order.{int_sign}
use Rattle.algebra.specs.OrderedRing.{OrderedRing}
use Rattle.algebra.specs.Integers.{int_ops}
use Rattle.algebra.specs.Surd.{Surd, surd_int, surd_add, surd_sub, surd_mul, surd_neg, surd_sign}

-- the values of C are the numbers a + b√k, each once, and for k = 1 the whole numbers
pub record HoldsSurds {C : Type 0} (k : ℕ) (surd : C → Surd ℤ) : Type 0 where
  pub make : (x : Surd ℤ) → (k ≡ 1 → x.b ≡ pos 0) → C
  pub surd_make : (x : Surd ℤ) (h : k ≡ 1 → x.b ≡ pos 0) → surd (make x h) ≡ x
  pub rational : (x : C) → k ≡ 1 → (surd x).b ≡ pos 0
  pub once : (x y : C) → surd x ≡ surd y → x ≡ y

-- they are an ordered ring, whose operations are those of the surds
pub record SurdNumbers {C : Type 0} (k : ℕ) (surd : C → Surd ℤ) : Type 0 where
  pub ring : OrderedRing C
  pub open ring use *
  pub whole_is : (n : ℤ) → surd (ring.int n) ≡ surd_int int_ops (pos k) n
  pub sum_is : (x y : C) → surd (ring.add x y) ≡ surd_add int_ops (pos k) (surd x) (surd y)
  pub difference_is : (x y : C) → surd (ring.sub x y) ≡ surd_sub int_ops (pos k) (surd x) (surd y)
  pub product_is : (x y : C) → surd (ring.mul x y) ≡ surd_mul int_ops (pos k) (surd x) (surd y)
  pub opposite_is : (x : C) → surd (ring.neg x) ≡ surd_neg int_ops (pos k) (surd x)
  pub sign_is : (x : C) → ring.sign x ≡ surd_sign int_ops (pos k) int_sign (surd x)
