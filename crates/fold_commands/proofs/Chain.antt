-- a chain of steps goes on or stops, has one outcome at most, and has one
use Rattle.std.proofs.Common.{◌≡◌, ◌⊎◌, ℕ, List, Result, Ok, Err, inl, inr, refl, sym, ◌∙◌, subst}
pub use Rattle.fold_commands.specs.Steps.{IsOne}
use Rattle.fold_commands.specs.Steps.{Outcome, Then, Answers, StopsWith, Steps, Follows, Ends, due_with}
use Rattle.fold_commands.specs.declared.status.Status.{Status}

-- a step gives a value, and what follows answers this
pub goes_on : {X : Type 0} (stops : Status → Type 0) (gives : X → Type 0) (next : X → Outcome) (x : X) → gives x → (r : Result (List ℕ) Status) → Follows (next x) r → Follows (Then stops gives next) r
goes_on stops gives next x g (Ok text) h = inr (x, g, h)
goes_on stops gives next x g (Err status) (inl memory) = inl memory
goes_on stops gives next x g (Err status) (inr h) = inr (h.0, inr (x, g, h.1))

-- a step stops
pub stops_here : {X : Type 0} (stops : Status → Type 0) (gives : X → Type 0) (next : X → Outcome) (status : Status) → (let r : Result X Status = Err status in Steps stops gives r) → Follows (Then stops gives next) (Err status)
stops_here stops gives next status (inl memory) = inl memory
stops_here stops gives next status (inr h) = inr (h.0, inl (h.1, refl))

-- the same of a whole run
pub ends_on : {X : Type 0} (stops : Status → Type 0) (gives : X → Type 0) (next : X → Outcome) (x : X) → gives x → (r : Result (List ℕ) Status) → Ends (next x) r → Ends (Then stops gives next) r
ends_on stops gives next x g (Ok text) h = inr (x, g, h)
ends_on stops gives next x g (Err status) (inl failed) = inl failed
ends_on stops gives next x g (Err status) (inr h) = inr (inr (x, g, h))

pub ends_here : {X : Type 0} (stops : Status → Type 0) (gives : X → Type 0) (next : X → Outcome) (status : Status) → stops status → Ends (Then stops gives next) (Err status)
ends_here stops gives next status h = inr (inl (h, refl))

pub ends_following : (outcome : Outcome) (r : Result (List ℕ) Status) → Follows outcome r → Ends outcome r
ends_following outcome (Ok text) h = h
ends_following outcome (Err status) (inl memory) = inl (inr memory)
ends_following outcome (Err status) (inr h) = inr h.1

-- ---- one outcome at most

-- a step stops in one way at most, gives one value at most, and doesn't do both
pub record IsStep {X : Type 0} (stops : Status → Type 0) (gives : X → Type 0) : Type 0 where
  pub one_stop : (s s' : Status) → stops s → stops s' → s ≡ s'
  pub one_value : (x x' : X) → gives x → gives x' → x ≡ x'
  pub apart : (s : Status) (x : X) → stops s → gives x → ⊥

pub one_then : {X : Type 0} (stops : Status → Type 0) (gives : X → Type 0) (next : X → Outcome) → IsStep stops gives → ((x : X) → gives x → IsOne (next x)) → IsOne (Then stops gives next)
one_then stops gives next step one s s' t t' (inl p) (inl q) =
    let same : s ≡ s' = step.one_stop s s' p.0 q.0 in
    (same, p.1 ∙ subst (λ z. due_with s ≡ due_with z) same refl ∙ sym q.1)
one_then stops gives next step one s s' t t' (inl p) (inr q) = absurd (step.apart s q.0 p.0 q.1)
one_then stops gives next step one s s' t t' (inr p) (inl q) = absurd (step.apart s' p.0 q.0 p.1)
one_then {X} stops gives next step one s s' t t' (inr p) (inr q) =
    let same : q.0 ≡ p.0 = step.one_value q.0 p.0 q.1 p.1 in
    let N : X → Type 0 = λ x. next x s' t' in
    one p.0 p.1 s s' t t' p.2 (subst N same q.2)

pub one_answer : (t : List ℕ) → IsOne (Answers t)
one_answer t a b u v p q = (p.0 ∙ sym q.0, p.1 ∙ sym q.1)

pub one_stop : (stop : Status) → IsOne (StopsWith stop)
one_stop stop a b u v p q = (p.0 ∙ sym q.0, p.1 ∙ sym q.1)

-- ---- an outcome

-- some status comes with some text
abbrev pub Comes : Outcome → Type 0
Comes outcome = (s : Status) × (t : List ℕ) × outcome s t

-- a step stops, or gives a value
abbrev pub Goes : {X : Type 0} → (Status → Type 0) → (X → Type 0) → Type 0
Goes {X} stops gives = ((s : Status) × stops s) ⊎ ((x : X) × gives x)

pub some_then : {X : Type 0} (stops : Status → Type 0) (gives : X → Type 0) (next : X → Outcome) → Goes stops gives → ((x : X) → gives x → Comes (next x)) → Comes (Then stops gives next)
some_then stops gives next (inl p) some = (p.0, due_with p.0, inl (p.1, refl))
some_then stops gives next (inr p) some = let h = some p.0 p.1 in (h.0, h.1, inr (p.0, p.1, h.2))
