-- Bounds on what calls computed, found through what each call ensures: no list of variables is asked for.
use Prim.Native.Nat.{ℕ, ◌+◌, ◌*◌, ◌≤◌}
use mathlib.Core.Bool.{Bool, true, false}
use mathlib.Core.Path.{◌≡◌, sym, subst}
use native.Mathlib.Nat.{le_trans, mul-le-mul}
use native.Mathlib.Omega.{arith}
use lib.Dec.{leb, T, leb→le}
use lib.IntN.{ℤ}
use Rattle.std.specs.Prelude.{unsigned_abs}
use Rattle.algebra.specs.Ring.{Operations}
use Rattle.algebra.specs.Size.{IsSize}

-- how a number is made, by ring operations and calls, of numbers with known bounds
pub data Bounded {A : Type 0} (ops : Operations A) (size : A → ℕ) : A → Type 0 where
  bounded : {a : A} {n : ℕ} → size a ≤ n → Bounded ops size a
  bounded_int : (n : ℤ) → Bounded ops size (ops.int n)
  bounded_call : {a b : A} → a ≡ b → Bounded ops size b → Bounded ops size a
  bounded_add : {a b : A} → Bounded ops size a → Bounded ops size b → Bounded ops size (ops.add a b)
  bounded_sub : {a b : A} → Bounded ops size a → Bounded ops size b → Bounded ops size (ops.sub a b)
  bounded_mul : {a b : A} → Bounded ops size a → Bounded ops size b → Bounded ops size (ops.mul a b)
  bounded_neg : {a : A} → Bounded ops size a → Bounded ops size (ops.neg a)

module _ {A : Type 0} {ops : Operations A} {size : A → ℕ} where
  abbrev pub limit_of : {a : A} → Bounded ops size a → ℕ
  limit_of (bounded {n = n} h) = n
  limit_of (bounded_int n) = unsigned_abs n
  limit_of (bounded_call e t) = limit_of t
  limit_of (bounded_add t s) = limit_of t + limit_of s
  limit_of (bounded_sub t s) = limit_of t + limit_of s
  limit_of (bounded_mul t s) = limit_of t * limit_of s
  limit_of (bounded_neg t) = limit_of t

  module _ (sized : IsSize ops size) where
    pub within_limit : {a : A} (t : Bounded ops size a) → size a ≤ limit_of t
    within_limit (bounded h) = h
    within_limit (bounded_int n) = sized.size_int n
    within_limit (bounded_call e t) = subst (λ (b : A). size b ≤ limit_of t) (sym e) (within_limit t)
    within_limit (bounded_add {a} {b} t s) = omega (arith, sized.size_add a b, within_limit t, within_limit s)
    within_limit (bounded_sub {a} {b} t s) = omega (arith, sized.size_sub a b, within_limit t, within_limit s)
    within_limit (bounded_mul {a} {b} t s) = le_trans (sized.size_mul a b) (mul-le-mul (within_limit t) (within_limit s))
    within_limit (bounded_neg {a} t) = le_trans (sized.size_neg a) (within_limit t)

-- no bound exceeds its limit: a refusal names the two that do
pub data Exceeds : ℕ → ℕ → Type 0 where

abbrev fits_by : Bool → ℕ → ℕ → Type 0
fits_by true m n = Unit {0}
fits_by false m n = Exceeds m n

abbrev pub Fits : ℕ → ℕ → Type 0
Fits m n = fits_by (leb m n) m n

pub at_most : (m n : ℕ) → Fits m n → m ≤ n
at_most m n h = leb→le m n (by_test (leb m n) h)
  where
    by_test : (b : Bool) → fits_by b m n → T b
    by_test true h = tt
    by_test false h = elim h [ ]
