-- a text has one reading: one tree, or one first fault
use Rattle.std.proofs.Common.{◌≡◌, ℕ, ◌+◌, ◌⊎◌, List, take, refl, ◌∙◌, ap, subst, arith, inl, inr, true, Some, None, Result, Ok, Err}
use Rattle.std.specs.Prelude.{slice_index, is_some}
use Rattle.std.proofs.lemmas.List.{take_more}
use Rattle.first_fault.specs.FirstFault.{Begins}
use Rattle.first_fault.specs.FirstFault as first
use Rattle.first_fault.specs.Machine.{steps}
use Rattle.first_fault.proofs.Faults.{one_fault, no_fault, stopped}
use Rattle.first_fault.proofs.Machines.{one_value, accepted_or_fault, tests_begins, steps-snoc}
use Rattle.json_tree.specs.PrintedForm.{printed_form}
use Rattle.json_tree.specs.Spells.{Spells}
use Rattle.json_tree.specs.Tree.{HasValidTexts, IsProper}
use Rattle.json_tree.specs.declared.tree.Json.{Json}
use Rattle.json_tree.proofs.Spelling.{printed_spells}
use Rattle.json_machine.specs.Machine.{step, finish, start}
use Rattle.json_machine.proofs.Decided.{decides}
use Rattle.json_read.specs.Causes.{OpensTooDeep, RepeatsKey, IsFaultAt, NamesFirstFault}
use Rattle.json_read.specs.Reads.{LacksMemory, FeedAnswers, FinishAnswers}
use Rattle.json_read.specs.Stops.{cause_of}
use Rattle.json_read.proofs.Causes.{repeats_at_quote, fault_cause}
use Rattle.json_read.specs.declared.fault.JsonCause.{JsonCause}
use Rattle.json_read.specs.declared.fault.JsonCause.TheVariants.{Byte, Ended, KeyTwice, Deep}
use Rattle.json_read.specs.declared.fault.JsonFault.{JsonFault}
use Rattle.json_read.specs.declared.fault.JsonReadFault.{JsonReadFault}
use Rattle.json_read.specs.declared.fault.JsonReadFault.TheVariants.{Text, Memory}

-- a cause as the way in which a text goes wrong
abbrev stop_of : JsonCause → first.Stop
stop_of Byte = first.Byte
stop_of Ended = first.Ended
stop_of KeyTwice = first.Byte
stop_of Deep = first.Byte

first_fault : (text : List ℕ) (p : ℕ) (cause : JsonCause) → IsFaultAt text p cause → first.IsFirstFault Spells text p (stop_of cause)
first_fault text p Byte f = f.0
first_fault text p Ended f = f
first_fault text p KeyTwice f = f.0
first_fault text p Deep f = f.0

-- a fault at a byte is one whatever follows, so no accepted text begins so
pub begins_not : (text : List ℕ) (p : ℕ) (cause : JsonCause) → (cause ≡ Ended → ⊥) → IsFaultAt text p cause → ¬ Begins Spells text
begins_not text p Byte n f = stopped Spells text p f.0
begins_not text p Ended n f = absurd (n refl)
begins_not text p KeyTwice n f = stopped Spells text p f.0
begins_not text p Deep n f = stopped Spells text p f.0

-- ---- one reading

pub one_tree : (text : List ℕ) (a b : Json) → Spells text a → Spells text b → a ≡ b
one_tree text a b s t = one_value Spells step finish start decides text a b s t

pub not_both : (text : List ℕ) (tree : Json) (fault : JsonFault) → Spells text tree → NamesFirstFault text fault → ⊥
not_both text tree fault s n = no_fault Spells text fault.place (stop_of fault.cause) (tree, s) (first_fault text fault.place fault.cause n)

-- the quote after a key is no bracket
not_deep : (text : List ℕ) (p : ℕ) → first.IsFirstFault Spells text p first.Byte → RepeatsKey text p → OpensTooDeep text p → ⊥
not_deep text p f r d = let quote = repeats_at_quote text p f.0 r in elim d.3 [ inl e ↦ omega arith | inr e ↦ omega arith ]

same_cause : (text : List ℕ) (p : ℕ) (c d : JsonCause) → stop_of c ≡ stop_of d → IsFaultAt text p c → IsFaultAt text p d → c ≡ d
same_cause text p Byte Byte e f g = refl
same_cause text p Byte Ended e f g = cc
same_cause text p Byte KeyTwice e f g = absurd (f.1 g.1)
same_cause text p Byte Deep e f g = absurd (f.2 g.1)
same_cause text p Ended Byte e f g = cc
same_cause text p Ended Ended e f g = refl
same_cause text p Ended KeyTwice e f g = cc
same_cause text p Ended Deep e f g = cc
same_cause text p KeyTwice Byte e f g = absurd (g.1 f.1)
same_cause text p KeyTwice Ended e f g = cc
same_cause text p KeyTwice KeyTwice e f g = refl
same_cause text p KeyTwice Deep e f g = absurd (not_deep text p f.0 f.1 g.1)
same_cause text p Deep Byte e f g = absurd (g.2 f.1)
same_cause text p Deep Ended e f g = cc
same_cause text p Deep KeyTwice e f g = absurd (not_deep text p f.0 g.1 f.1)
same_cause text p Deep Deep e f g = refl

same_parts : (f g : JsonFault) → f.place ≡ g.place → f.cause ≡ g.cause → f ≡ g
same_parts f g p c = ap (λ x. let h : JsonFault = record { place = x; cause = f.cause } in h) p ∙ ap (λ x. let h : JsonFault = record { place = g.place; cause = x } in h) c

pub same_fault : (text : List ℕ) (f g : JsonFault) → NamesFirstFault text f → NamesFirstFault text g → f ≡ g
same_fault text f g n m =
    let same = one_fault Spells text f.place g.place (stop_of f.cause) (stop_of g.cause) (first_fault text f.place f.cause n) (first_fault text g.place g.cause m) in
    same_parts f g same.0 (same_cause text g.place f.cause g.cause same.1 (subst (λ p. IsFaultAt text p f.cause) same.0 n) m)

-- the machine tells the cause of a fault at a byte
caused : (text : List ℕ) (p : ℕ) → first.IsFirstFault Spells text p first.Byte → (cause : JsonCause) × IsFaultAt text p cause
caused text p f =
    (elim (steps step start (take p text)) as (λ o. steps step start (take p text) ≡ o → (cause : JsonCause) × IsFaultAt text p cause) [
      | None ↦ λ e.
          let begun : is_some (steps step start (take p text)) ≡ true = (tests_begins Spells step finish start decides (take p text)).1 f.1 in
          let none = ap is_some e in
          cc
      | Some m ↦ λ e.
          (elim (step m (slice_index text p)) as (λ o. step m (slice_index text p) ≡ o → (cause : JsonCause) × IsFaultAt text p cause) [
            | None ↦ λ none. (cause_of m.phase (slice_index text p), fault_cause text p f.0 m e none)
            | Some next ↦ λ goes.
                let read = ap (steps step start) (take_more text p 0 f.0) ∙ steps-snoc step start m (take p text) (slice_index text p) e ∙ goes in
                absurd (f.2 (decides.alive (take (p + 1) text) next read))
          ]) refl
    ]) refl

named : (text : List ℕ) (p : ℕ) (stop : first.Stop) → first.IsFirstFault Spells text p stop → (fault : JsonFault) × NamesFirstFault text fault
named text p first.Byte f = let c = caused text p f in (record { place = p; cause = c.0 }, c.1)
named text p first.Ended f = (record { place = p; cause = Ended }, f)

pub some_reading : (text : List ℕ) → ((tree : Json) × Spells text tree) ⊎ ((fault : JsonFault) × NamesFirstFault text fault)
some_reading text = elim (accepted_or_fault Spells step finish start decides text) [ inl a ↦ inl a | inr f ↦ inr (named text f.0 f.1 f.2) ]

-- ---- what may be answered

-- while a text comes that has a fault already
pub refused_feed : (text : List ℕ) (fault : JsonFault) (answer : Result (Unit {0}) JsonReadFault) → NamesFirstFault text fault → (fault.cause ≡ Ended → ⊥) → FeedAnswers text answer → (answer ≡ Err (Text fault)) ⊎ LacksMemory answer
refused_feed text fault (Ok done) n late r = absurd (begins_not text fault.place fault.cause late n r)
refused_feed text fault (Err (Text told)) n late r = inl (ap (λ f. Err (Text f)) (same_fault text told fault r.0 n))
refused_feed text fault (Err (Memory e)) n late r = inr tt

-- at the end of a text that spells a tree
pub accepted_finish : (text : List ℕ) (tree : Json) (answer : Result Json JsonReadFault) → Spells text tree → FinishAnswers text answer → (answer ≡ Ok tree) ⊎ LacksMemory answer
accepted_finish text tree (Ok given) s r = inl (ap Ok (one_tree text given tree r s))
accepted_finish text tree (Err (Text fault)) s r = absurd (not_both text tree fault s r)
accepted_finish text tree (Err (Memory e)) s r = inr tt

-- at the end of a text with a fault
pub refused_finish : (text : List ℕ) (fault : JsonFault) (answer : Result Json JsonReadFault) → NamesFirstFault text fault → FinishAnswers text answer → (answer ≡ Err (Text fault)) ⊎ LacksMemory answer
refused_finish text fault (Ok given) n r = absurd (not_both text given fault r n)
refused_finish text fault (Err (Text told)) n r = inl (ap (λ f. Err (Text f)) (same_fault text told fault r n))
refused_finish text fault (Err (Memory e)) n r = inr tt

-- at the end of the printed form of a proper tree
pub printed_reads_back : (tree : Json) (answer : Result Json JsonReadFault) → HasValidTexts tree → IsProper tree → FinishAnswers (printed_form tree) answer → (answer ≡ Ok tree) ⊎ LacksMemory answer
printed_reads_back tree answer texts proper r = accepted_finish (printed_form tree) tree answer (printed_spells tree texts proper) r
