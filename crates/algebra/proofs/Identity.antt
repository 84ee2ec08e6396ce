-- Solvers for polynomial identities.
use mathlib.Core.Path.{◌≡◌, refl, sym, ap₂, ◌∙◌}
use mathlib.Core.List.{List}
use lib.IntN.{pos}
use Rattle.algebra.specs.Ring.{Operations, IsRing}
use Rattle.algebra.specs.OrderedRing.{OrderedRing}
use Rattle.algebra.proofs.Expression.{Expression, constant, plus, minus, times, nth_value, value_of}
use Rattle.algebra.proofs.Polynomial.{Agree}
use Rattle.algebra.proofs.RingLaws.{nought, mul_zero, equal_of_difference, difference_of_equal}
use Rattle.algebra.proofs.NormalForm.{same_value}
use Rattle.algebra.proofs.Reading.{Reading, expression_of, value_of_reading}

-- known equations, each with what it is multiplied by
pub data Equations {A : Type 0} (ops : Operations A) (xs : List A) : Type 0 where
  no_equation : Equations ops xs
  multiple : (c : A) {a b : A} → Reading ops xs c → Reading ops xs a → Reading ops xs b → a ≡ b → Equations ops xs → Equations ops xs

-- the sum of the differences of the equations' sides, each times its multiplier
abbrev pub combination : {A : Type 0} {ops : Operations A} {xs : List A} → Equations ops xs → Expression
combination no_equation = constant (pos 0)
combination (multiple c r s t h rest) = plus (times (expression_of r) (minus (expression_of s) (expression_of t))) (combination rest)

-- over the laws of a ring alone, for what is not ordered yet
module _ {A : Type 0} (ops : Operations A) (laws : IsRing ops) (xs : List A) where
  pub ring_by_laws : {a b : A} (r : Reading ops xs a) (s : Reading ops xs b) → Agree (expression_of r) (expression_of s) → a ≡ b
  ring_by_laws r s h = sym (value_of_reading r) ∙ same_value ops laws (nth_value ops xs) (expression_of r) (expression_of s) h ∙ value_of_reading s

  combination_is_zero : (known : Equations ops xs) → value_of ops (nth_value ops xs) (combination known) ≡ nought ops laws
  combination_is_zero no_equation = refl
  combination_is_zero (multiple c {a} {b} r s t h rest) =
      ap₂ ops.add
      (ap₂ ops.mul (value_of_reading r) (ap₂ ops.sub (value_of_reading s) (value_of_reading t) ∙ difference_of_equal ops laws a b h) ∙ mul_zero ops laws c)
      (combination_is_zero rest)
      ∙ laws.add_zero (nought ops laws)

  pub ring_from_by_laws : (known : Equations ops xs) {a b : A} (r : Reading ops xs a) (s : Reading ops xs b)
      → Agree (minus (expression_of r) (expression_of s)) (combination known) → a ≡ b
  ring_from_by_laws known {a} {b} r s h =
      equal_of_difference ops laws a b
      (sym (ap₂ ops.sub (value_of_reading r) (value_of_reading s))
      ∙ same_value ops laws (nth_value ops xs) (minus (expression_of r) (expression_of s)) (combination known) h
      ∙ combination_is_zero known)

module _ {A : Type 0} (K : OrderedRing A) (xs : List A) where
  -- two numbers made of those in the list are equal, since they come to the same polynomial
  pub ring : {a b : A} (r : Reading K.ops xs a) (s : Reading K.ops xs b) → Agree (expression_of r) (expression_of s) → a ≡ b
  ring = ring_by_laws K.ops K.laws xs

  -- two numbers are equal, since their difference is the combination of the known equations
  pub ring_from : (known : Equations K.ops xs) {a b : A} (r : Reading K.ops xs a) (s : Reading K.ops xs b)
      → Agree (minus (expression_of r) (expression_of s)) (combination known) → a ≡ b
  ring_from = ring_from_by_laws K.ops K.laws xs
