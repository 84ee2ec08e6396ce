-- Finding the expression of a number by `search`: a `Reading` of a number is an expression whose value the number is.
use mathlib.Core.Path.{◌≡◌, refl, ap, ap₂}
use mathlib.Core.List.{List, ◌∷◌}
use Prim.Native.Nat.{ℕ, zero, suc}
use lib.IntN.{ℤ}
use Rattle.algebra.specs.Ring.{Operations}
use Rattle.algebra.proofs.Expression.{Expression, variable, constant, plus, minus, times, opposite, nth_value, value_of}

-- a place of a number in a list
pub data Place {A : Type 0} (a : A) : List A → Type 0 where
  here : {xs : List A} → Place a (a ∷ xs)
  there : {x : A} {xs : List A} → Place a xs → Place a (x ∷ xs)

abbrev pub index_of : {A : Type 0} {a : A} {xs : List A} → Place a xs → ℕ
index_of here = zero
index_of (there p) = suc (index_of p)

-- how a number is made of those in a list
pub data Reading {A : Type 0} (ops : Operations A) (xs : List A) : A → Type 0 where
  read_variable : {a : A} → Place a xs → Reading ops xs a
  read_int : (n : ℤ) → Reading ops xs (ops.int n)
  read_add : {a b : A} → Reading ops xs a → Reading ops xs b → Reading ops xs (ops.add a b)
  read_sub : {a b : A} → Reading ops xs a → Reading ops xs b → Reading ops xs (ops.sub a b)
  read_mul : {a b : A} → Reading ops xs a → Reading ops xs b → Reading ops xs (ops.mul a b)
  read_neg : {a : A} → Reading ops xs a → Reading ops xs (ops.neg a)

-- what `search` reads by: a number in the list is a variable, also one that is a sum or a product
pub ruleset reads = (read_variable, here, there, read_int, read_add, read_sub, read_mul, read_neg)

abbrev pub expression_of : {A : Type 0} {ops : Operations A} {xs : List A} {a : A} → Reading ops xs a → Expression
expression_of (read_variable p) = variable (index_of p)
expression_of (read_int n) = constant n
expression_of (read_add r s) = plus (expression_of r) (expression_of s)
expression_of (read_sub r s) = minus (expression_of r) (expression_of s)
expression_of (read_mul r s) = times (expression_of r) (expression_of s)
expression_of (read_neg r) = opposite (expression_of r)

value_at_place : {A : Type 0} (ops : Operations A) {a : A} {xs : List A} (p : Place a xs) → nth_value ops xs (index_of p) ≡ a
value_at_place ops here = refl
value_at_place ops (there p) = value_at_place ops p

pub value_of_reading : {A : Type 0} {ops : Operations A} {xs : List A} {a : A} (r : Reading ops xs a) → value_of ops (nth_value ops xs) (expression_of r) ≡ a
value_of_reading {ops = ops} (read_variable p) = value_at_place ops p
value_of_reading (read_int n) = refl
value_of_reading {ops = ops} (read_add r s) = ap₂ ops.add (value_of_reading r) (value_of_reading s)
value_of_reading {ops = ops} (read_sub r s) = ap₂ ops.sub (value_of_reading r) (value_of_reading s)
value_of_reading {ops = ops} (read_mul r s) = ap₂ ops.mul (value_of_reading r) (value_of_reading s)
value_of_reading {ops = ops} (read_neg r) = ap ops.neg (value_of_reading r)
