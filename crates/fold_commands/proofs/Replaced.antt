-- a line in place of yes
use Rattle.std.proofs.Common.{◌≡◌, ◌≢◌, List, ℕ, Result, Ok, Err, inl, inr, refl, subst}
use Rattle.fold_commands.specs.Drills.{InPlaceOfYes}
use Rattle.fold_commands.specs.Steps.{Follows, IsStop, Outcome}
use Rattle.fold_commands.specs.declared.status.Status.{Status}
use Rattle.fold_commands.specs.declared.status.Status.TheVariants.{Done}

pub replaced : (line text said : List ℕ) (outcome : Outcome) → outcome Done said → text ≡ line
    → Follows (InPlaceOfYes line outcome) (Ok text)
replaced line text said outcome done is = inl (refl, (said, done), is)

not_done : (status : Status) → IsStop status → status ≢ Done
not_done status stop e = subst IsStop e stop

pub stays : (line : List ℕ) (outcome : Outcome) (status : Status) → (let r : Result (List ℕ) Status = Err status in Follows outcome r)
    → Follows (InPlaceOfYes line outcome) (Err status)
stays line outcome status (inl memory) = inl memory
stays line outcome status (inr h) = inr (h.0, inr (not_done status h.0, h.1))
