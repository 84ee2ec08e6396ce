-- The numbers (a + b√k) / q in lowest terms, as a field.
use Rattle.std.specs.Prelude.{◌≡◌, ℕ, ℤ, pos, ◌⊎◌}
use Rattle.std.specs.declared.cmp.Ordering.TheVariants.{Equal}
use Rattle.algebra.specs.OrderedField.{OrderedField}
use Rattle.algebra.specs.Integers.{int_ops}
use Rattle.algebra.specs.Surd.{Surd, IsNonsquare, surd_mul}
use Rattle.algebra.specs.LowestTerms.{Parts, IsReduced, IsNumber}
use Rattle.algebra.specs.NumberFormulas.{whole_parts, opposite, sum, difference, product, quotient, parts_sign}

-- k is 1, whose numbers are the rationals, or no square
abbrev pub IsRadicand : ℕ → Type 0
IsRadicand k = (k ≡ 1) ⊎ IsNonsquare k

-- p stands for the fraction n / d of two numbers a + b√k
abbrev pub IsFraction : ℕ → Surd ℤ → Surd ℤ → Parts → Type 0
IsFraction k n d p = surd_mul int_ops (pos k) (record { a = p.a; b = p.b }) d ≡ surd_mul int_ops (pos k) n (record { a = p.q; b = pos 0 })

-- the numbers over √k themselves
pub record Number (k : ℕ) : Type 0 where
  pub parts : Parts
  pub is : IsNumber k parts

-- the values of C are the numbers over √k, each once: `parts` are a number's three whole numbers
pub record HoldsNumbers {C : Type 0} (k : ℕ) (parts : C → Parts) : Type 0 where
  pub make : (p : Parts) → IsNumber k p → C
  pub parts_make : (p : Parts) (is : IsNumber k p) → parts (make p is) ≡ p
  pub is_number : (x : C) → IsNumber k (parts x)
  pub once : (x y : C) → parts x ≡ parts y → x ≡ y

-- they are an ordered field, whose operations are the formulas brought to lowest terms; of a quotient by zero nothing is said
pub record NumberField {C : Type 0} (k : ℕ) (parts : C → Parts) : Type 0 where
  pub field : OrderedField C
  pub open field use *
  pub whole_is : (n : ℤ) → parts (field.int n) ≡ whole_parts n
  pub sum_is : (x y : C) → IsReduced (sum (parts x) (parts y)) (parts (field.add x y))
  pub difference_is : (x y : C) → IsReduced (difference (parts x) (parts y)) (parts (field.sub x y))
  pub product_is : (x y : C) → IsReduced (product k (parts x) (parts y)) (parts (field.mul x y))
  pub opposite_is : (x : C) → parts (field.neg x) ≡ opposite (parts x)
  pub quotient_is : (x y : C) → ¬ (field.sign y ≡ Equal) → IsReduced (quotient k (parts x) (parts y)) (parts (field.div x y))
  pub sign_is : (x : C) → field.sign x ≡ parts_sign k (parts x)
