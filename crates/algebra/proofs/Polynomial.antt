-- Polynomials in a normal form: a whole number, or x_i * p + q, where p has no variable before x_i and q only later ones.
use Prim.Native.Nat.{ℕ, zero, suc}
use mathlib.Core.Bool.{true, false}
use mathlib.Core.List.{List, [], ◌∷◌, ◌++◌}
use lib.Dec.{ltb}
use lib.IntN.{ℤ, pos, negsuc, ◌+ℤ◌, ◌*ℤ◌}
use Rattle.algebra.proofs.Expression.{Expression, variable, constant, plus, minus, times, opposite}

pub data Polynomial : Type 0 where
  whole : ℤ → Polynomial
  horner : ℕ → Polynomial → Polynomial → Polynomial

-- x_i * p + q, which is q where p is 0
abbrev pub horner_form : ℕ → Polynomial → Polynomial → Polynomial
horner_form i (whole (pos zero)) q = q
horner_form i (whole (pos (suc n))) q = horner i (whole (pos (suc n))) q
horner_form i (whole (negsuc n)) q = horner i (whole (negsuc n)) q
horner_form i (horner j p r) q = horner i (horner j p r) q

abbrev pub add_whole : ℤ → Polynomial → Polynomial
add_whole a (whole b) = whole (a +ℤ b)
add_whole a (horner j p q) = horner j p (add_whole a q)

-- x_i * p + q and a polynomial, where `add_p` adds p and `add_q` adds q
abbrev pub add_horner : ℕ → Polynomial → (Polynomial → Polynomial) → (Polynomial → Polynomial) → Polynomial → Polynomial
add_horner i p add_p add_q (whole b) = horner i p (add_q (whole b))
add_horner i p add_p add_q (horner j r s) =
    elim (ltb i j) [
      | true ↦ horner i p (add_q (horner j r s))
      | false ↦ elim (ltb j i) [ true ↦ horner j r (add_horner i p add_p add_q s) | false ↦ horner_form i (add_p r) (add_q s) ]
    ]

abbrev pub sum_of : Polynomial → Polynomial → Polynomial
sum_of (whole a) t = add_whole a t
sum_of (horner i p q) t = add_horner i p (sum_of p) (sum_of q) t

-- a times a polynomial, for an a that is not 0
abbrev pub multiply_each : ℤ → Polynomial → Polynomial
multiply_each a (whole b) = whole (a *ℤ b)
multiply_each a (horner j p q) = horner j (multiply_each a p) (multiply_each a q)

abbrev pub multiple_of : ℤ → Polynomial → Polynomial
multiple_of (pos zero) p = whole (pos zero)
multiple_of (pos (suc n)) p = multiply_each (pos (suc n)) p
multiple_of (negsuc n) p = multiply_each (negsuc n) p

-- x_i times a polynomial
abbrev pub times_variable : ℕ → Polynomial → Polynomial
times_variable i (whole c) = horner_form i (whole c) (whole (pos zero))
times_variable i (horner j p q) =
    elim (ltb j i) [ true ↦ horner j (times_variable i p) (times_variable i q) | false ↦ horner i (horner j p q) (whole (pos zero)) ]

abbrev pub product_of : Polynomial → Polynomial → Polynomial
product_of (whole a) t = multiple_of a t
product_of (horner i p q) t = sum_of (times_variable i (product_of p t)) (product_of q t)

abbrev pub normal_form : Expression → Polynomial
normal_form (variable i) = horner i (whole (pos 1)) (whole (pos 0))
normal_form (constant c) = whole c
normal_form (plus e f) = sum_of (normal_form e) (normal_form f)
normal_form (minus e f) = sum_of (normal_form e) (multiple_of (negsuc 0) (normal_form f))
normal_form (times e f) = product_of (normal_form e) (normal_form f)
normal_form (opposite e) = multiple_of (negsuc 0) (normal_form e)

-- a whole number times variables
pub data Term : Type 0 where
  term : ℤ → List ℕ → Term

-- the terms of a polynomial, each times the variables of `factors`
abbrev pub terms_times : List ℕ → Polynomial → List Term
terms_times factors (whole (pos zero)) = []
terms_times factors (whole (pos (suc n))) = term (pos (suc n)) factors ∷ []
terms_times factors (whole (negsuc n)) = term (negsuc n) factors ∷ []
terms_times factors (horner i p q) = terms_times (factors ++ i ∷ []) p ++ terms_times factors q

-- no terms are left over: a refusal names those that are
pub data Leftover : List Term → Type 0 where

-- the polynomial is 0
abbrev pub Vanishes : Polynomial → Type 0
Vanishes (whole (pos zero)) = Unit {0}
Vanishes (whole (pos (suc n))) = Leftover (terms_times [] (whole (pos (suc n))))
Vanishes (whole (negsuc n)) = Leftover (terms_times [] (whole (negsuc n)))
Vanishes (horner i p q) = Leftover (terms_times [] (horner i p q))

-- two expressions come to the same polynomial
abbrev pub Agree : Expression → Expression → Type 0
Agree e f = Vanishes (normal_form (minus e f))
