-- a machine goes from a state over a text to a state
use Rattle.std.proofs.Common.{◌≡◌, ℕ, List, [], ◌∷◌, ◌++◌, refl, ◌∙◌, ap, Option, Some}
use Rattle.first_fault.specs.Machine.{steps}
use Rattle.first_fault.proofs.Machines.{steps_join, steps_one}

pub record Goes {S : Type 0} (step : S → ℕ → Option S) (s : S) (t : List ℕ) (e : S) : Type 0 where
  pub runs : steps step s t ≡ Some e

pub then_goes : {S : Type 0} {step : S → ℕ → Option S} {s m e : S} {a b : List ℕ} → Goes step s a m → Goes step m b e → Goes step s (a ++ b) e
then_goes {S} {step} {s} {m} {e} {a} {b} f g = record { runs = steps_join step s m e a b f.runs g.runs }

pub byte_goes : {S : Type 0} {step : S → ℕ → Option S} {s e : S} (b : ℕ) → step s b ≡ Some e → Goes step s (b ∷ []) e
byte_goes {S} {step} {s} {e} b f = record { runs = steps_one step s e b f }

pub none_goes : {S : Type 0} {step : S → ℕ → Option S} {s : S} → Goes step s [] s
none_goes = record { runs = refl }

pub along : {S : Type 0} {step : S → ℕ → Option S} {s e : S} {a b : List ℕ} → a ≡ b → Goes step s b e → Goes step s a e
along {S} {step} {s} {e} {a} {b} f g = record { runs = ap (steps step s) f ∙ g.runs }
