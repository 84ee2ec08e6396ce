-- a machine reads a text byte by byte: a byte leads from a state to the next one, or can't stand
-- there
use Rattle.std.specs.Prelude.{◌≡◌, ℕ, List, [], ◌∷◌, Option, Some, option_and_then}
use Rattle.first_fault.specs.FirstFault.{Begins}

-- the state after these bytes, or none
abbrev pub steps : {S : Type 0} → (S → ℕ → Option S) → S → List ℕ → Option S
steps step s [] = Some s
steps step s (b ∷ bs) = option_and_then (λ next. steps step next bs) (step s b)

-- what the machine answers where the text ends after these bytes
abbrev pub answer : {S V : Type 0} → (S → ℕ → Option S) → (S → Option V) → S → List ℕ → Option V
answer step finish s bytes = option_and_then finish (steps step s bytes)

-- the machine answers exactly the values of the grammar, and where it goes on, an accepted text
-- begins
pub record Decides {S V : Type 0} (Grammar : List ℕ → V → Type 0)
    (step : S → ℕ → Option S) (finish : S → Option V) (start : S) : Type 0 where
  pub sound : (t : List ℕ) (s : S) (v : V) → steps step start t ≡ Some s → finish s ≡ Some v
      → Grammar t v
  pub alive : (t : List ℕ) (s : S) → steps step start t ≡ Some s → Begins Grammar t
  pub complete : (t : List ℕ) (v : V) → Grammar t v → answer step finish start t ≡ Some v
