-- Answers that come exactly where a fact holds, and what they make of numbers of 128 bits.
use Rattle.std.proofs.Common.{◌≡◌, ◌∙◌, sym, subst, Ok, Err, Result, IfOk, ℤ}
use Rattle.std.specs.Prelude.{FitsSigned, IsErr}
use Rattle.std.specs.Int.{w128, cast_signed, cast_unsigned}
use Rattle.std.specs.Result.{OkIff}

-- under a fact that holds where that one does
pub answered_as : {T E : Type 0} (r : Result T E) (P Q : Type 0) (v w : T) → (P → Q) → (Q → P) → v ≡ w → OkIff r P v → OkIff r Q w
answered_as (Ok x) P Q v w f g e h = (f h.0, h.1 ∙ e)
answered_as (Err d) P Q v w f g e h = λ q. h (g q)

-- what holds of the answer holds where it comes
pub of_answer : {T E : Type 0} (r : Result T E) (P : Type 0) (v : T) (Q : T → Type 0) → Q v → OkIff r P v → IfOk r Q
of_answer (Ok x) P v Q q h = subst Q (sym h.1) q
of_answer (Err d) P v Q q h = tt

-- an error where the fact doesn't hold
pub refused : {T E : Type 0} (r : Result T E) (P : Type 0) (v : T) → IsErr r → ¬ P → OkIff r P v
refused (Ok x) P v e n = absurd (cc)
refused (Err d) P v e n = n

-- a number as a call is handed it
abbrev pub handed : ℤ → ℤ
handed n = cast_signed w128 (cast_unsigned w128 n)

-- what an operation on two numbers forms, and where it forms none, if the numbers that it is handed are s and t
module _ (op : ℤ → ℤ → ℤ) (x y s t : ℤ) (x_is : handed x ≡ s) (y_is : handed y ≡ t) where
  pub formed : (v : ℤ) → FitsSigned w128 (op (handed x) (handed y)) × (v ≡ op (handed x) (handed y)) → FitsSigned w128 (op s t) × (v ≡ op s t)
  formed v h =
      let P : ℤ → ℤ → Type 0 = λ m n. FitsSigned w128 (op m n) × (v ≡ op m n) in
      subst (λ m. P m t) x_is (subst (λ n. P (handed x) n) y_is h)

  pub not_formed : ¬ FitsSigned w128 (op (handed x) (handed y)) → ¬ FitsSigned w128 (op s t)
  not_formed h f = h (subst (λ m. FitsSigned w128 (op m (handed y))) (sym x_is) (subst (λ n. FitsSigned w128 (op s n)) (sym y_is) f))
