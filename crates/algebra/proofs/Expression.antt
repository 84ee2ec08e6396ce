-- Polynomial expressions in numbered variables, and their values in a ring.
use Prim.Native.Nat.{ℕ, zero, suc}
use mathlib.Core.List.{List, [], ◌∷◌}
use lib.IntN.{ℤ, pos}
use Rattle.algebra.specs.Ring.{Operations}

pub data Expression : Type 0 where
  variable : ℕ → Expression
  constant : ℤ → Expression
  plus : Expression → Expression → Expression
  minus : Expression → Expression → Expression
  times : Expression → Expression → Expression
  opposite : Expression → Expression

-- the expressions' own operations: a definition over a ring's operations is, at these, its own expression
abbrev pub expressions : Operations Expression
expressions = record { int = constant; add = plus; sub = minus; mul = times; neg = opposite }

module _ {A : Type 0} (ops : Operations A) where
  -- the value of the variable numbered i: the i-th of a list, counted from 0
  abbrev pub nth_value : List A → ℕ → A
  nth_value [] i = ops.int (pos 0)
  nth_value (x ∷ xs) zero = x
  nth_value (x ∷ xs) (suc i) = nth_value xs i

  -- the value of an expression, where `at` gives the values of the variables
  abbrev pub value_of : (ℕ → A) → Expression → A
  value_of at (variable i) = at i
  value_of at (constant c) = ops.int c
  value_of at (plus e f) = ops.add (value_of at e) (value_of at f)
  value_of at (minus e f) = ops.sub (value_of at e) (value_of at f)
  value_of at (times e f) = ops.mul (value_of at e) (value_of at f)
  value_of at (opposite e) = ops.neg (value_of at e)
