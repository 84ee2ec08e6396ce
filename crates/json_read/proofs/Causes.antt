-- the cause that the machine sees where it stops is the cause of the text's first fault
use Rattle.std.proofs.Common.{◌≡◌, ℕ, ◌+◌, ◌<◌, ◌≤◌, List, [], ◌∷◌, ◌++◌, length, take, refl, sym, ◌∙◌, ap, subst, append_assoc, arith, ◌⊎◌, inl, inr, Bool, true, false, Some, None, length-append, encode_utf8_all}
use Rattle.std.specs.Prelude.{nat_lt, if◌then◌else◌, slice_index, ◌==◌, ◌&&◌, ◌||◌}
use Rattle.std.proofs.lemmas.Bool.{and_parts}
use Rattle.std.proofs.lemmas.Bool.Decides.{nat_tests}
use Rattle.std.proofs.lemmas.List.{take_more}
use borrow.Author.Tests.{ltb-false}
use Rattle.first_fault.specs.FirstFault as first
use Rattle.first_fault.specs.Machine.{steps}
use Rattle.first_fault.proofs.Machines.{leads, fault_at_byte}
use Rattle.json_tree.specs.Spells.{Spells}
use Rattle.json_tree.specs.declared.tree.Member.{Member}
use Rattle.json_machine.specs.Machine.{Frame, InList, InObject, Phase, ValueDue, FirstValueDue, FirstKeyDue, ColonDue, InKey, State, sign_of, start, pushed, has_key, keyed, in_key, by_phase, step, finish}
use Rattle.json_machine.specs.Due.{ValueIsDue}
use Rattle.json_machine.specs.WordScan.{WordState, next_character, by_part, is_between}
use Rattle.json_machine.proofs.Decided.{decides}
use Rattle.json_machine.proofs.Dues.{due_depth, due_goes, key_text_goes}
use Rattle.json_machine.proofs.Keys.{has_key_found}
use Rattle.json_machine.proofs.Leads.{LeadsAt, Leads, leads_step, leads_start, between_part, word_spelled}
use Rattle.json_machine.proofs.Runs.{at, IsDue}
use Rattle.json_machine.proofs.Words.{at_rest}
use Rattle.json_read.specs.Causes.{OpensTooDeep, RepeatsKey, IsFaultAt}
use Rattle.json_read.specs.Stops.{cause_at_value, cause_in_key, cause_of}
use Rattle.json_read.specs.declared.fault.JsonCause.{JsonCause}
use Rattle.json_read.specs.declared.fault.JsonCause.TheVariants.{Byte, Ended, KeyTwice, Deep}

-- ---- what a cause says of the phase and the byte

abbrev IsOpening : ℕ → Type 0
IsOpening b = (b ≡ 91) ⊎ (b ≡ 123)

abbrev Shows : Phase → ℕ → JsonCause → Type 0
Shows phase b Byte = Unit {0}
Shows phase b Ended = ⊥
Shows phase b KeyTwice = (w : WordState) × (phase ≡ InKey w) × (is_between w.part ≡ true) × (b ≡ 34)
Shows phase b Deep = IsDue phase × IsOpening b

opening : (b : ℕ) → (b == 91 || b == 123) ≡ true → IsOpening b
opening b e = grind (arith, nat_tests)

is_byte : (b k : ℕ) → (b == k) ≡ true → b ≡ k
is_byte b k e = grind (arith, nat_tests)

shows_at_value : (phase : Phase) → IsDue phase → (b : ℕ) → Shows phase b (cause_at_value b)
shows_at_value phase due b =
    (elim (b == 91 || b == 123) as (λ r. (b == 91 || b == 123) ≡ r → Shows phase b (if r then Deep else Byte)) [
      | true ↦ λ e. (due, opening b e)
      | false ↦ λ e. tt
    ]) refl

shows_in_key : (w : WordState) (b : ℕ) → Shows (InKey w) b (cause_in_key w b)
shows_in_key w b =
    (elim (is_between w.part && b == 34) as (λ r. (is_between w.part && b == 34) ≡ r → Shows (InKey w) b (if r then KeyTwice else Byte)) [
      | true ↦ λ e. let parts = and_parts (is_between w.part) (b == 34) e in (w, refl, parts.0, is_byte b 34 parts.1)
      | false ↦ λ e. tt
    ]) refl

shows : (phase : Phase) (b : ℕ) → Shows phase b (cause_of phase b)
shows ValueDue b = shows_at_value ValueDue (inl refl) b
shows FirstValueDue b = shows_at_value FirstValueDue (inr refl) b
shows (InKey w) b = shows_in_key w b
shows _ b = tt

pub cause_not_ended : (phase : Phase) (b : ℕ) → cause_of phase b ≡ Ended → ⊥
cause_not_ended phase b e = subst (Shows phase b) e (shows phase b)

cause_of_opening : (phase : Phase) (b : ℕ) → IsDue phase → IsOpening b → cause_of phase b ≡ Deep
cause_of_opening phase b (inl d) (inl o) = rw (d, o) refl
cause_of_opening phase b (inl d) (inr o) = rw (d, o) refl
cause_of_opening phase b (inr d) (inl o) = rw (d, o) refl
cause_of_opening phase b (inr d) (inr o) = rw (d, o) refl

-- ---- the quote after a key

same_last : (xs ys : List ℕ) (x y : ℕ) → xs ++ x ∷ [] ≡ ys ++ y ∷ [] → (xs ≡ ys) × (x ≡ y)
same_last [] [] x y e = (refl, cc)
same_last [] (b ∷ ys) x y e = absurd (omega (arith, ap length e, length-append ys (y ∷ [])))
same_last (a ∷ xs) [] x y e = absurd (omega (arith, ap length e, length-append xs (x ∷ [])))
same_last (a ∷ xs) (b ∷ ys) x y e =
    let head : a ≡ b = cc in
    let tail : xs ++ x ∷ [] ≡ ys ++ y ∷ [] = cc in
    let rest = same_last xs ys x y tail in
    (ap (λ z. z ∷ xs) head ∙ ap (λ zs. b ∷ zs) rest.0, rest.1)

-- the text before the quote, and the quote
repeats_ends : (text : List ℕ) (p : ℕ) → p < length text → (r : RepeatsKey text p) → (take p text ≡ r.2 ++ (34 ∷ []) ++ r.7.0) × (slice_index text p ≡ 34)
repeats_ends text p less r =
    let spelled : r.2 ++ r.3 ≡ (r.2 ++ (34 ∷ []) ++ r.7.0) ++ 34 ∷ [] = rw r.7.2 (simp append_assoc) in
    same_last (take p text) (r.2 ++ (34 ∷ []) ++ r.7.0) (slice_index text p) 34 (sym (take_more text p 0 less) ∙ r.6 ∙ spelled)

pub repeats_at_quote : (text : List ℕ) (p : ℕ) → p < length text → RepeatsKey text p → slice_index text p ≡ 34
repeats_at_quote text p less r = (repeats_ends text p less r).1

-- ---- where the machine stops

pushed_full : (k : List Frame) (f : Frame) (phase : Phase) → pushed k f phase ≡ None → 64 ≤ length k
pushed_full k f phase e =
    let made : State = record { stack = f ∷ k; root = None; phase = phase } in
    (elim (nat_lt (length k) 64) as (λ r. nat_lt (length k) 64 ≡ r → (if r then Some made else None) ≡ None → 64 ≤ length k) [
      | true ↦ λ h x. cc
      | false ↦ λ h x. omega (arith, ltb-false)
    ]) refl e

key_had : (key : List ℕ) (members : List Member) (earlier : List ℕ) (k : List Frame) → keyed key (InObject members earlier ∷ k) ≡ None → has_key key members ≡ true
key_had key members earlier k e =
    let made : State = record { stack = InObject members key ∷ k; root = None; phase = ColonDue } in
    (elim (has_key key members) as (λ r. has_key key members ≡ r → (if r then None else Some made) ≡ None → has_key key members ≡ true) [
      | true ↦ λ h x. h
      | false ↦ λ h x. cc
    ]) refl e

module _ (text : List ℕ) (p : ℕ) (less : p < length text) (m : State) (reached : steps step start (take p text) ≡ Some m) where
  led : Leads (take p text) m
  led = leads step Leads leads_step start leads_start (take p text) m reached

  led_at : (phase : Phase) → m.phase ≡ phase → LeadsAt phase (take p text) m
  led_at phase e = subst (λ q. LeadsAt q (take p text) m) e led

  -- a key that is repeated, and an opening too deep, are seen as such
  repeats_seen : RepeatsKey text p → cause_of m.phase (slice_index text p) ≡ KeyTwice
  repeats_seen r =
      let ends = repeats_ends text p less r in
      let w = at_rest (encode_utf8_all r.7.1) in
      let there : steps step start (take p text) ≡ Some (at (InObject r.0 [] ∷ r.1) (InKey w)) = ap (steps step start) ends.0 ∙ (key_text_goes r.0 r.1 r.2 r.7.0 r.7.1 r.5 r.7.3).runs in
      let same : m ≡ at (InObject r.0 [] ∷ r.1) (InKey w) = cc in
      ap (λ (s : State). cause_of s.phase (slice_index text p)) same ∙ ap (cause_of (InKey w)) ends.1

  deep_seen : OpensTooDeep text p → cause_of m.phase (slice_index text p) ≡ Deep
  deep_seen d =
      let due = due_goes d.0 (take p text) d.1 in
      let there : steps step start (take p text) ≡ Some (at d.0 due.0) = due.2.runs in
      let same : m ≡ at d.0 due.0 = cc in
      ap (λ (s : State). cause_of s.phase (slice_index text p)) same ∙ cause_of_opening due.0 (slice_index text p) due.1 d.3

  -- and what is seen as such is
  full : IsDue m.phase → IsOpening (slice_index text p) → step m (slice_index text p) ≡ None → 64 ≤ length m.stack
  full (inl e) (inl o) none = pushed_full m.stack (InList []) FirstValueDue (ap (λ q. by_phase q m 91 (sign_of 91)) (sym e) ∙ ap (step m) (sym o) ∙ none)
  full (inl e) (inr o) none = pushed_full m.stack (InObject [] []) FirstKeyDue (ap (λ q. by_phase q m 123 (sign_of 123)) (sym e) ∙ ap (step m) (sym o) ∙ none)
  full (inr e) (inl o) none = pushed_full m.stack (InList []) FirstValueDue (ap (λ q. by_phase q m 91 (sign_of 91)) (sym e) ∙ ap (step m) (sym o) ∙ none)
  full (inr e) (inr o) none = pushed_full m.stack (InObject [] []) FirstKeyDue (ap (λ q. by_phase q m 123 (sign_of 123)) (sym e) ∙ ap (step m) (sym o) ∙ none)

  due_there : IsDue m.phase → ValueIsDue m.stack (take p text)
  due_there (inl e) = led_at ValueDue e
  due_there (inr e) = (led_at FirstValueDue e).2

  deep_there : IsDue m.phase → IsOpening (slice_index text p) → step m (slice_index text p) ≡ None → OpensTooDeep text p
  deep_there due o none =
      let d = due_there due in
      let least = full due o none in
      let most = due_depth m.stack (take p text) d in
      (m.stack, d, omega arith, o)

  repeats_there : (w : WordState) → m.phase ≡ InKey w → is_between w.part ≡ true → slice_index text p ≡ 34 → step m (slice_index text p) ≡ None → RepeatsKey text p
  repeats_there w phase_is between byte_is none =
      let l = led_at (InKey w) phase_is in
      let stays : in_key m w 34 (next_character w 34) ≡ None = ap (λ q. by_phase q m 34 (sign_of 34)) (sym phase_is) ∙ ap (step m) (sym byte_is) ∙ none in
      let ends : next_character w 34 ≡ None = ap (λ part. by_part w part 34) (between_part w.part between) in
      let refused : keyed w.word m.stack ≡ None = sym (ap (λ (r : Bool). if r && true then keyed w.word m.stack else None) between) ∙ sym (ap (in_key m w 34) ends) ∙ stays in
      let had : has_key w.word l.2 ≡ true = key_had w.word l.2 l.1 l.0 (sym (ap (keyed w.word) l.5) ∙ refused) in
      let front : take (p + 1) text ≡ l.3 ++ ((34 ∷ []) ++ l.4 ++ (34 ∷ [])) = take_more text p 0 less ∙ rw (l.6, byte_is) (simp append_assoc) in
      (l.2, l.0, l.3, (34 ∷ []) ++ l.4 ++ (34 ∷ []), w.word, l.7, front, word_spelled l.4 w l.8 between, has_key_found w.word l.2 had)

  by_cause : step m (slice_index text p) ≡ None → first.IsFirstFault Spells text p first.Byte → (cause : JsonCause) → cause_of m.phase (slice_index text p) ≡ cause → Shows m.phase (slice_index text p) cause → IsFaultAt text p cause
  by_cause none f Byte e s = (f, (λ r. let seen = repeats_seen r in cc), (λ d. let seen = deep_seen d in cc))
  by_cause none f Ended e s = absurd s
  by_cause none f KeyTwice e s = (f, repeats_there s.0 s.1 s.2 s.3 none)
  by_cause none f Deep e s = (f, deep_there s.0 s.1 none)

  pub fault_cause : step m (slice_index text p) ≡ None → IsFaultAt text p (cause_of m.phase (slice_index text p))
  fault_cause none = by_cause none (fault_at_byte Spells step finish start decides text p m less reached none) (cause_of m.phase (slice_index text p)) refl (shows m.phase (slice_index text p))
