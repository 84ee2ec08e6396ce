-- Ordered fields: ordered rings in which one divides by each number but zero.
use mathlib.Core.Path.{◌≡◌}
use lib.IntN.{ℤ, pos, ◌+ℤ◌, ◌*ℤ◌}
use Rattle.std.specs.declared.cmp.Ordering.{Ordering}
use Rattle.std.specs.declared.cmp.Ordering.TheVariants.{Equal}
use Rattle.algebra.specs.Ring.{Operations}
use Rattle.algebra.specs.Order.{int_sign, product_sign}
use Rattle.algebra.specs.OrderedRing.{OrderedRing}

-- an ordered field as one thing: `F.add`, `F.mul_comm` and `F.sign` name what is its ring's
pub record OrderedField (A : Type 0) : Type 0 where
  pub ring : OrderedRing A
  pub open ring use *
  pub div : A → A → A
  pub div_mul : (a b : A) → ¬ (ring.sign b ≡ Equal) → ring.mul (div a b) b ≡ a

-- ---- the same where one number has many forms, as a fraction has: `same a b` where a and b stand for one number

pub record IsEquality {A : Type 0} (same : A → A → Type 0) : Type 0 where
  pub reflexive : (a : A) → same a a
  pub symmetric : (a b : A) → same a b → same b a
  pub transitive : (a b c : A) → same a b → same b c → same a c

-- forms of one number give forms of one number, and have one sign
pub record Respects {A : Type 0} (same : A → A → Type 0) (ops : Operations A) (inverse : A → A) (sign : A → Ordering) : Type 0 where
  pub same_add : (a b c d : A) → same a b → same c d → same (ops.add a c) (ops.add b d)
  pub same_sub : (a b c d : A) → same a b → same c d → same (ops.sub a c) (ops.sub b d)
  pub same_mul : (a b c d : A) → same a b → same c d → same (ops.mul a c) (ops.mul b d)
  pub same_neg : (a b : A) → same a b → same (ops.neg a) (ops.neg b)
  pub same_inverse : (a b : A) → same a b → same (inverse a) (inverse b)
  pub same_sign : (a b : A) → same a b → sign a ≡ sign b

-- the laws of a field
pub record IsFieldUpTo {A : Type 0} (same : A → A → Type 0) (ops : Operations A) (inverse : A → A) (sign : A → Ordering) : Type 0 where
  pub add_assoc : (a b c : A) → same (ops.add (ops.add a b) c) (ops.add a (ops.add b c))
  pub add_comm : (a b : A) → same (ops.add a b) (ops.add b a)
  pub add_zero : (a : A) → same (ops.add a (ops.int (pos 0))) a
  pub add_neg : (a : A) → same (ops.add a (ops.neg a)) (ops.int (pos 0))
  pub sub_is : (a b : A) → same (ops.sub a b) (ops.add a (ops.neg b))
  pub mul_assoc : (a b c : A) → same (ops.mul (ops.mul a b) c) (ops.mul a (ops.mul b c))
  pub mul_comm : (a b : A) → same (ops.mul a b) (ops.mul b a)
  pub mul_one : (a : A) → same (ops.mul a (ops.int (pos 1))) a
  pub mul_add : (a b c : A) → same (ops.mul a (ops.add b c)) (ops.add (ops.mul a b) (ops.mul a c))
  pub int_add : (m n : ℤ) → same (ops.int (m +ℤ n)) (ops.add (ops.int m) (ops.int n))
  pub int_mul : (m n : ℤ) → same (ops.int (m *ℤ n)) (ops.mul (ops.int m) (ops.int n))
  pub mul_inverse : (a : A) → ¬ (sign a ≡ Equal) → same (ops.mul a (inverse a)) (ops.int (pos 1))

-- the laws of its order
pub record IsOrderedUpTo {A : Type 0} (same : A → A → Type 0) (ops : Operations A) (sign : A → Ordering) : Type 0 where
  pub sign_int : (n : ℤ) → sign (ops.int n) ≡ int_sign n
  pub sign_zero : (a : A) → sign a ≡ Equal → same a (ops.int (pos 0))
  pub sign_mul : (a b : A) → sign (ops.mul a b) ≡ product_sign (sign a) (sign b)
  pub sign_add : (s : Ordering) (a b : A) → sign a ≡ s → sign b ≡ s → sign (ops.add a b) ≡ s

-- an ordered field of such forms, as one thing
pub record OrderedFieldUpTo {A : Type 0} (same : A → A → Type 0) : Type 0 where
  pub ops : Operations A
  pub open ops use *
  pub inverse : A → A
  pub sign : A → Ordering
  pub equality : IsEquality same
  pub open equality use *
  pub respects : Respects same ops inverse sign
  pub open respects use *
  pub laws : IsFieldUpTo same ops inverse sign
  pub open laws use *
  pub order : IsOrderedUpTo same ops sign
  pub open order use *
