-- what the answer of a machine says of a text, where the machine decides a grammar
use Rattle.std.proofs.Common.{◌≡◌, ℕ, ◌+◌, ◌<◌, List, [], ◌∷◌, ◌++◌, length, take, get_or, refl, sym, ◌∙◌, ap, subst, append_assoc, arith, Option, Some, None, IsTrue, ◌⊎◌, inl, inr, length-append}
use Rattle.std.specs.Prelude.{option_and_then, is_some, ◌↔◌}
use Rattle.std.proofs.lemmas.List.{append-nil, take_more, take_all, take_at}
use Rattle.first_fault.specs.FirstFault.{IsAccepted, Begins, IsFirstFault, HasFirstFault, Byte, Ended}
use Rattle.first_fault.specs.Machine.{steps, answer, Decides}

module _ {S : Type 0} (step : S → ℕ → Option S) where
  pub steps-append : (s : S) (a b : List ℕ) → steps step s (a ++ b) ≡ option_and_then (λ t. steps step t b) (steps step s a)
  steps-append s [] b = refl
  steps-append s (x ∷ a) b = elim (step s x) as (λ o. option_and_then (λ t. steps step t (a ++ b)) o ≡ option_and_then (λ t. steps step t b) (option_and_then (λ t. steps step t a) o)) [ None ↦ refl | Some t ↦ steps-append t a b ]

  -- one more byte
  pub steps-snoc : (s t : S) (a : List ℕ) (b : ℕ) → steps step s a ≡ Some t → steps step s (a ++ b ∷ []) ≡ step t b
  steps-snoc s t a b e =
      steps-append s a (b ∷ []) ∙ ap (option_and_then (λ u. steps step u (b ∷ []))) e ∙ some_of (step t b)
    where
      some_of : (o : Option S) → option_and_then (λ next. Some next) o ≡ o
      some_of None = refl
      some_of (Some x) = refl

  pub steps_join : (s m e : S) (a b : List ℕ) → steps step s a ≡ Some m → steps step m b ≡ Some e → steps step s (a ++ b) ≡ Some e
  steps_join s m e a b f g = steps-append s a b ∙ ap (option_and_then (λ u. steps step u b)) f ∙ g

  pub steps_one : (s m : S) (b : ℕ) → step s b ≡ Some m → steps step s (b ∷ []) ≡ Some m
  steps_one s m b e = ap (option_and_then (λ u. Some u)) e

  pub steps_cons : (s m e : S) (b : ℕ) (t : List ℕ) → step s b ≡ Some m → steps step m t ≡ Some e → steps step s (b ∷ t) ≡ Some e
  steps_cons s m e b t f g = ap (option_and_then (λ u. steps step u t)) f ∙ g

module _ {S V : Type 0} (Grammar : List ℕ → V → Type 0) (step : S → ℕ → Option S) (finish : S → Option V) (start : S) (d : Decides Grammar step finish start) where
  -- where the machine stops, no accepted text begins
  begins_not : (t : List ℕ) → steps step start t ≡ None → Begins Grammar t → ⊥
  begins_not t e b =
      let whole = d.complete (t ++ b.0) b.1.0 b.1.1 in
      let stopped = ap (option_and_then finish) (steps-append step start t b.0 ∙ ap (option_and_then (λ u. steps step u b.0)) e) in
      cc

  pub fault_at_byte : (text : List ℕ) (p : ℕ) (s : S) → p < length text → steps step start (take p text) ≡ Some s → step s (get_or text p 0) ≡ None → IsFirstFault Grammar text p Byte
  fault_at_byte text p s lt e n = (lt, d.alive (take p text) s e, begins_not (take (p + 1) text) (ap (steps step start) (take_more text p 0 lt) ∙ steps-snoc step start s (take p text) (get_or text p 0) e ∙ n))

  pub fault_at_end : (text : List ℕ) (s : S) → steps step start text ≡ Some s → finish s ≡ None → IsFirstFault Grammar text (length text) Ended
  fault_at_end text s e n = (
    refl,
    subst (Begins Grammar) (sym (take_all (length text) text (omega arith))) (d.alive text s e),
    (λ a. let whole = d.complete text a.0 a.1 in let stopped = ap (option_and_then finish) e ∙ n in cc),
  )

  stops_after : (front rest : List ℕ) (b : ℕ) (s : S) → steps step start front ≡ Some s → step s b ≡ None → IsFirstFault Grammar (front ++ b ∷ rest) (length front) Byte
  stops_after front rest b s e n =
      let before : take (length front) (front ++ b ∷ rest) ≡ front = take_at front (b ∷ rest) (length front) refl in
      let after : take (length front + 1) (front ++ b ∷ rest) ≡ front ++ b ∷ [] =
      ap (take (length front + 1)) (sym (append_assoc front (b ∷ []) rest)) ∙ take_at (front ++ b ∷ []) rest (length front + 1) (length-append front (b ∷ [])) in
      (omega (arith, length-append front (b ∷ rest)), rw before (d.alive front s e), rw after (begins_not (front ++ b ∷ []) (steps-snoc step start s front b e ∙ n)))

  reads_on : (front rest : List ℕ) (s : S) → steps step start front ≡ Some s → IsAccepted Grammar (front ++ rest) ⊎ HasFirstFault Grammar (front ++ rest)
  reads_on front [] s e = rw append-nil
      ((elim (finish s) as (λ o. finish s ≡ o → IsAccepted Grammar front ⊎ HasFirstFault Grammar front) [
        | None ↦ λ n. inr (length front, Ended, fault_at_end front s e n)
        | Some v ↦ λ n. inl (v, d.sound front s v e n)
      ]) refl)
  reads_on front (b ∷ rest) s e =
      (elim (step s b) as (λ o. step s b ≡ o → IsAccepted Grammar (front ++ b ∷ rest) ⊎ HasFirstFault Grammar (front ++ b ∷ rest)) [
        | None ↦ λ n. inr (length front, Byte, stops_after front rest b s e n)
        | Some next ↦ λ n. rw (← append_assoc front (b ∷ []) rest) (reads_on (front ++ b ∷ []) rest next (steps-snoc step start s front b e ∙ n))
      ]) refl

  -- a text is accepted or has a first fault
  pub accepted_or_fault : (text : List ℕ) → IsAccepted Grammar text ⊎ HasFirstFault Grammar text
  accepted_or_fault text = reads_on [] text start refl

  pub one_value : (text : List ℕ) (v w : V) → Grammar text v → Grammar text w → v ≡ w
  one_value text v w a b = let e = d.complete text v a in let f = d.complete text w b in cc

  -- the machine as a test of what begins an accepted text
  pub tests_begins : (t : List ℕ) → IsTrue (is_some (steps step start t)) ↔ Begins Grammar t
  tests_begins t =
      (elim (steps step start t) as (λ o. steps step start t ≡ o → IsTrue (is_some o) ↔ Begins Grammar t) [
        | None ↦ λ e. ((λ h. cc), (λ b. absurd (begins_not t e b)))
        | Some s ↦ λ e. ((λ h. d.alive t s e), (λ b. refl))
      ]) refl

  -- the machine as a test of what is accepted
  pub tests_accepted : (t : List ℕ) → IsTrue (is_some (answer step finish start t)) ↔ IsAccepted Grammar t
  tests_accepted t =
      (elim (steps step start t) as (λ o. steps step start t ≡ o → IsTrue (is_some (option_and_then finish o)) ↔ IsAccepted Grammar t) [
        | None ↦ λ e. ((λ h. cc), (λ a. let whole = d.complete t a.0 a.1 in let stopped = ap (option_and_then finish) e in cc))
        | Some s ↦ λ e.
            (elim (finish s) as (λ o. finish s ≡ o → IsTrue (is_some o) ↔ IsAccepted Grammar t) [
              | None ↦ λ n. ((λ h. cc), (λ a. let whole = d.complete t a.0 a.1 in let stopped = ap (option_and_then finish) e ∙ n in cc))
              | Some v ↦ λ n. ((λ h. (v, d.sound t s v e n)), (λ a. refl))
            ]) refl
      ]) refl

-- what is true of the start, and stays true with each byte, is true of each text and the state that
-- it leads to
module _ {S : Type 0} (step : S → ℕ → Option S) (Leads : List ℕ → S → Type 0) (more : (t : List ℕ) (s : S) (b : ℕ) (next : S) → Leads t s → step s b ≡ Some next → Leads (t ++ b ∷ []) next) where
  leads_on : (u : List ℕ) (s : S) (t : List ℕ) (last : S) → Leads u s → steps step s t ≡ Some last → Leads (u ++ t) last
  leads_on u s [] last l e = let same : s ≡ last = cc in rw append-nil (subst (Leads u) same l)
  leads_on u s (b ∷ t) last l e =
      (elim (step s b) as (λ o. step s b ≡ o → option_and_then (λ next. steps step next t) o ≡ Some last → Leads (u ++ b ∷ t) last) [
        | None ↦ λ f g. cc
        | Some next ↦ λ f g. subst (λ w. Leads w last) (append_assoc u (b ∷ []) t) (leads_on (u ++ b ∷ []) next t last (more u s b next l f) g)
      ]) refl e

  pub leads : (start : S) → Leads [] start → (t : List ℕ) (s : S) → steps step start t ≡ Some s → Leads t s
  leads start l t s e = leads_on [] start t s l e
