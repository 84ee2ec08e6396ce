-- a text has one reading: one list of lines, or one first fault
use Rattle.std.proofs.Common.{◌≡◌, ℕ, ◌⊎◌, List, take, refl, sym, ◌∙◌, ap, subst, inl, inr, Result, Ok, Err}
use Rattle.first_fault.proofs.Faults.{one_fault, no_fault}
use Rattle.first_fault.proofs.Machines.{one_value, accepted_or_fault}
use Rattle.first_fault.specs.FirstFault as first
use Rattle.cp_lines.specs.CpText.{CpText}
use Rattle.cp_lines.specs.Machine.{step, finish, start}
use Rattle.cp_lines.specs.Place.{line_at, column_at}
use Rattle.cp_lines.specs.Reads.{stop_of, IsFaultAt, NamesFirstFault, Reads, LacksMemory}
use Rattle.cp_lines.proofs.Complete.{decides}
use Rattle.cp_lines.specs.declared.line.CpLine.{CpLine}
use Rattle.cp_lines.specs.declared.fault.CpCause.{CpCause}
use Rattle.cp_lines.specs.declared.fault.CpCause.TheVariants.{Byte, Ended}
use Rattle.cp_lines.specs.declared.fault.CpFault.{CpFault}
use Rattle.cp_lines.specs.declared.fault.CpReadFault.{CpReadFault}
use Rattle.cp_lines.specs.declared.fault.CpReadFault.TheVariants.{Text, Memory}

pub one_list : (text : List ℕ) (v w : List CpLine) → CpText text v → CpText text w → v ≡ w
one_list text v w a b = one_value CpText step finish start decides text v w a b

pub not_both : (text : List ℕ) (v : List CpLine) (f : CpFault) → CpText text v → NamesFirstFault text f → ⊥
not_both text v f a n = no_fault CpText text n.0 (stop_of f.cause) (v, a) n.1

pub named_at : (text : List ℕ) (p : ℕ) (cause : CpCause) (fault : CpFault) → IsFaultAt text p cause → fault.cause ≡ cause → fault.line ≡ line_at (take p text) → fault.column ≡ column_at (take p text) → NamesFirstFault text fault
named_at text p cause fault at c l d = (p, subst (IsFaultAt text p) (sym c) at, l, d)

same_cause : (c d : CpCause) → stop_of c ≡ stop_of d → c ≡ d
same_cause Byte Byte e = refl
same_cause Byte Ended e = cc
same_cause Ended Byte e = cc
same_cause Ended Ended e = refl

same_fault : (f g : CpFault) → f.line ≡ g.line → f.column ≡ g.column → f.cause ≡ g.cause → f ≡ g
same_fault f g l c d =
    ap (λ x. let h : CpFault = record { line = x; column = f.column; cause = f.cause } in h) l
    ∙ ap (λ x. let h : CpFault = record { line = g.line; column = x; cause = f.cause } in h) c
    ∙ ap (λ x. let h : CpFault = record { line = g.line; column = g.column; cause = x } in h) d

pub one_named : (text : List ℕ) (f g : CpFault) → NamesFirstFault text f → NamesFirstFault text g → f ≡ g
one_named text f g n m =
    let same = one_fault CpText text n.0 m.0 (stop_of f.cause) (stop_of g.cause) n.1 m.1 in
    same_fault f g
    (n.2 ∙ ap (λ p. line_at (take p text)) same.0 ∙ sym m.2)
    (n.3 ∙ ap (λ p. column_at (take p text)) same.0 ∙ sym m.3)
    (same_cause f.cause g.cause same.1)

named : (text : List ℕ) (p : ℕ) (stop : first.Stop) → first.IsFirstFault CpText text p stop → (fault : CpFault) × NamesFirstFault text fault
named text p first.Byte f = (record { line = line_at (take p text); column = column_at (take p text); cause = Byte }, (p, f, refl, refl))
named text p first.Ended f = (record { line = line_at (take p text); column = column_at (take p text); cause = Ended }, (p, f, refl, refl))

pub some_reading : (text : List ℕ) → ((lines : List CpLine) × CpText text lines) ⊎ ((fault : CpFault) × NamesFirstFault text fault)
some_reading text = elim (accepted_or_fault CpText step finish start decides text) [ inl a ↦ inl a | inr f ↦ inr (named text f.0 f.1 f.2) ]

-- what may be answered for a text that spells lines
pub accepted_answer : (text : List ℕ) (lines : List CpLine) (answer : Result (List CpLine) CpReadFault) → CpText text lines → Reads text answer → (answer ≡ Ok lines) ⊎ LacksMemory answer
accepted_answer text lines (Ok given) a r = inl (ap Ok (one_list text given lines r a))
accepted_answer text lines (Err (Text fault)) a r = absurd (not_both text lines fault a r)
accepted_answer text lines (Err (Memory e)) a r = inr tt

-- what may be answered for a text with a fault
pub refused_answer : (text : List ℕ) (fault : CpFault) (answer : Result (List CpLine) CpReadFault) → NamesFirstFault text fault → Reads text answer → (answer ≡ Err (Text fault)) ⊎ LacksMemory answer
refused_answer text fault (Ok given) n r = absurd (not_both text given fault r n)
refused_answer text fault (Err (Text named)) n r = inl (ap (λ f. Err (Text f)) (one_named text named fault r n))
refused_answer text fault (Err (Memory e)) n r = inr tt
