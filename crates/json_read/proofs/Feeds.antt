-- what the machine reads of a text that comes in pieces, and the fault where it stops
use Rattle.std.proofs.Common.{◌≡◌, ℕ, ◌+◌, ◌<◌, List, ◌++◌, length, take, refl, true, sym, ◌∙◌, ap, subst, arith, inl, inr, Some, None, Ok, Err, length-append}
use Rattle.std.specs.Prelude.{nat_lt, slice_index}
use Rattle.std.proofs.lemmas.List.{take-append-le, get_or_append_left, get_or-append-add}
use Rattle.std.proofs.Math.Seq.{take-append-add}
use borrow.Author.Tests.{ltb-true}
use Rattle.first_fault.specs.Machine.{steps}
use Rattle.first_fault.proofs.Faults.{fault_stays}
use Rattle.first_fault.proofs.Machines.{fault_at_end, steps_join}
use Rattle.json_tree.specs.Spells.{Spells}
use Rattle.json_tree.specs.declared.tree.Json.{Json}
use Rattle.json_machine.specs.Machine.{State, step, finish, start}
use Rattle.json_machine.specs.Due.{ValueIsDue}
use Rattle.json_machine.proofs.Decided.{decides}
use Rattle.json_read.specs.Causes.{OpensTooDeep, RepeatsKey, IsFaultAt, NamesFirstFault}
use Rattle.json_read.specs.Reader.{HasRead, HasReadBy}
use Rattle.json_read.specs.Reads.{FeedAnswers, FinishAnswers, UnlessMemory}
use Rattle.json_read.specs.Stops.{cause_of, IsStop}
use Rattle.json_read.proofs.Causes.{cause_not_ended, fault_cause}
use Rattle.json_read.proofs.Readings.{begins_not}
use Rattle.json_read.specs.declared.fault.JsonCause.{JsonCause}
use Rattle.json_read.specs.declared.fault.JsonCause.TheVariants.{Byte, Ended, KeyTwice, Deep}
use Rattle.json_read.specs.declared.fault.JsonFault.{JsonFault}
use Rattle.json_read.specs.declared.fault.JsonReadFault.{JsonReadFault}
use Rattle.json_read.specs.declared.fault.JsonReadFault.TheVariants.{Text, Memory}
use Rattle.json_read.specs.declared.machine.Machine.{Machine}
use Rattle.json_read.specs.declared.reader.JsonReader.{JsonReader}

-- ---- a fault at a byte stays, with its cause

-- two texts that have the first p + 1 bytes in common
abbrev SameUpTo : ℕ → List ℕ → List ℕ → Type 0
SameUpTo p a b = (take p a ≡ take p b) × (take (p + 1) a ≡ take (p + 1) b) × (slice_index a p ≡ slice_index b p)

same_up_to : (t more : List ℕ) (p : ℕ) → p < length t → SameUpTo p (t ++ more) t
same_up_to t more p less = (take-append-le p t more (omega arith), take-append-le (p + 1) t more (omega arith), get_or_append_left t more 0 p less)

flipped : (p : ℕ) (a b : List ℕ) → SameUpTo p a b → SameUpTo p b a
flipped p a b s = (sym s.0, sym s.1, sym s.2)

repeats_same : (p : ℕ) (a b : List ℕ) → SameUpTo p a b → RepeatsKey a p → RepeatsKey b p
repeats_same p a b s r = (r.0, r.1, r.2, r.3, r.4, r.5, sym s.1 ∙ r.6, r.7, r.8)

deep_same : (p : ℕ) (a b : List ℕ) → SameUpTo p a b → OpensTooDeep a p → OpensTooDeep b p
deep_same p a b s d = (d.0, subst (ValueIsDue d.0) s.0 d.1, d.2, elim d.3 [ inl e ↦ inl (sym s.2 ∙ e) | inr e ↦ inr (sym s.2 ∙ e) ])

pub fault_on : (t more : List ℕ) (p : ℕ) (cause : JsonCause) → (cause ≡ Ended → ⊥) → IsFaultAt t p cause → IsFaultAt (t ++ more) p cause
fault_on t more p Ended n f = absurd (n refl)
fault_on t more p KeyTwice n f = (fault_stays Spells t more p f.0, repeats_same p t (t ++ more) (flipped p (t ++ more) t (same_up_to t more p f.0.0)) f.1)
fault_on t more p Deep n f = (fault_stays Spells t more p f.0, deep_same p t (t ++ more) (flipped p (t ++ more) t (same_up_to t more p f.0.0)) f.1)
fault_on t more p Byte n f = let same = same_up_to t more p f.0.0 in (fault_stays Spells t more p f.0, (λ r. f.1 (repeats_same p (t ++ more) t same r)), (λ d. f.2 (deep_same p (t ++ more) t same d)))

-- ---- where the machine stops

pub stop_fault : (t piece : List ℕ) (s : State) (p : ℕ) (cause : JsonCause) → steps step start t ≡ Some s → IsStop s piece p cause → IsFaultAt (t ++ piece) (length t + p) cause
stop_fault t piece s p cause e i =
    let at = length t + p in
    let text = t ++ piece in
    let byte : slice_index text at ≡ slice_index piece p = get_or-append-add t piece p 0 in
    let last = i.1 in
    let reached : steps step start (take at text) ≡ Some last = ap (steps step start) (take-append-add t piece p) ∙ steps_join step start s last t (take p piece) e i.2 in
    let none : step last (slice_index text at) ≡ None = ap (step last) byte ∙ i.3 in
    let less : at < length text = simp length-append (omega (arith, i.0)) in
    subst (IsFaultAt text at) (ap (cause_of last.phase) byte ∙ sym i.4) (fault_cause text at less last reached none)

pub byte_fault : (text : List ℕ) (p : ℕ) (cause : JsonCause) (m : State) → nat_lt p (length text) ≡ true → steps step start (take p text) ≡ Some m → step m (slice_index text p) ≡ None → cause ≡ cause_of m.phase (slice_index text p)
    → IsFaultAt text p cause
byte_fault text p cause m less e none is = subst (IsFaultAt text p) (sym is) (fault_cause text p (ltb-true p (length text) less) m e none)

pub stop_not_ended : (s : State) (piece : List ℕ) (p : ℕ) (cause : JsonCause) → IsStop s piece p cause → cause ≡ Ended → ⊥
stop_not_ended s piece p cause i e = cause_not_ended i.1.phase (slice_index piece p) (sym i.4 ∙ e)

pub end_fault : (t : List ℕ) (s : State) → steps step start t ≡ Some s → finish s ≡ None → IsFaultAt t (length t) Ended
end_fault t s e n = fault_at_end Spells step finish start decides t s e n

-- ---- what a piece may be answered

-- a fault that was found before
pub again_answers : (t more : List ℕ) (fault : JsonFault) → (fault.cause ≡ Ended → ⊥) → NamesFirstFault t fault → FeedAnswers (t ++ more) (Err (Text fault))
again_answers t more fault n f = let on = fault_on t more fault.place fault.cause n f in (on, begins_not (t ++ more) fault.place fault.cause n on)

-- a fault at which the reader has stopped
pub stopped_reads : (fault : JsonReadFault) (machine : Machine) (t more : List ℕ) → HasReadBy (Some fault) machine t → HasReadBy (Some fault) machine (t ++ more)
stopped_reads (Text fault) machine t more r = (fault_on t more fault.place fault.cause r.1 r.0, r.1)
stopped_reads (Memory e) machine t more r = absurd r

pub stopped_answers : (fault : JsonReadFault) (machine : Machine) (t more : List ℕ) → HasReadBy (Some fault) machine t → FeedAnswers (t ++ more) (Err fault)
stopped_answers (Text fault) machine t more r = again_answers t more fault r.1 r.0
stopped_answers (Memory e) machine t more r = absurd r

stopped_ends : (fault : JsonReadFault) (machine : Machine) (t : List ℕ) → HasReadBy (Some fault) machine t → FinishAnswers t (Err fault)
stopped_ends (Text fault) machine t r = r.0
stopped_ends (Memory e) machine t r = absurd r

pub stopped_finish : (reader : JsonReader) (fault : JsonReadFault) (t : List ℕ) → reader.stopped ≡ Some fault → HasRead reader t → FinishAnswers t (Err fault)
stopped_finish reader fault t e r = stopped_ends fault reader.machine t (subst (λ s. HasReadBy s reader.machine t) e r.1)

pub unless_memory : (T : Type 0) (fault : JsonReadFault) (P : Type 0) → P → UnlessMemory {T = T} (Err fault) P
unless_memory T (Text fault) P p = p
unless_memory T (Memory e) P p = tt

-- a fault in the piece
pub stop_answers : (t piece : List ℕ) (s : State) (p : ℕ) (fault : JsonFault) → steps step start t ≡ Some s → IsStop s piece p fault.cause → fault.place ≡ length t + p → FeedAnswers (t ++ piece) (Err (Text fault))
stop_answers t piece s p fault e i at =
    let f = subst (λ q. IsFaultAt (t ++ piece) q fault.cause) (sym at) (stop_fault t piece s p fault.cause e i) in
    (f, begins_not (t ++ piece) fault.place fault.cause (stop_not_ended s piece p fault.cause i) f)

-- a piece that is read to its end
pub go_answers : (t piece : List ℕ) (s next : State) → steps step start t ≡ Some s → steps step s piece ≡ Some next → FeedAnswers (t ++ piece) (Ok tt)
go_answers t piece s next e goes = decides.alive (t ++ piece) next (steps_join step start s next t piece e goes)

-- ---- what the end of a text may be answered

pub tree_answers : (t : List ℕ) (s : State) (tree : Json) → steps step start t ≡ Some s → finish s ≡ Some tree → FinishAnswers t (Ok tree)
tree_answers t s tree e done = decides.sound t s tree e done

pub end_answers : (t : List ℕ) (s : State) (fault : JsonFault) → steps step start t ≡ Some s → finish s ≡ None → fault.place ≡ length t → fault.cause ≡ Ended → FinishAnswers t (Err (Text fault))
end_answers t s fault e none at ended =
    subst (λ c. IsFaultAt t fault.place c) (sym ended) (subst (λ q. IsFaultAt t q Ended) (sym at) (end_fault t s e none))
