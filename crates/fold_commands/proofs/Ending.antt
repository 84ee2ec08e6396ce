-- from what is due to what was written
use Rattle.std.proofs.Common.{◌≡◌, ◌≢◌, ◌⊎◌, ℕ, arith, length, List, [], Result, Ok, Err, None, Some, ap, append-nil, inl, inr, refl, sym, ◌∙◌, subst}
use Rattle.std.specs.declared.option.Option.{Option}
use Rattle.fold_base.specs.Outside.{Gains, GainsPart, Gives, IsSpent, Rose}
use Rattle.std.specs.Prelude.{IfErr}
use Rattle.fold_commands.specs.Crossings.{no_line}
use Rattle.fold_commands.specs.Drawings.{NeverStops}
use Rattle.fold_commands.specs.Drills.{IsStripText}
use Rattle.fold_commands.specs.Status.{IsAnswer, IsFailure, status_of}
use Rattle.fold_commands.specs.Steps.{Ends, Follows, due_with}
use Rattle.fold_commands.specs.Outside.{PutsInto, PutsText, Takes, TakesAll, TakesFrom}
use Rattle.fold_commands.specs.Words.{AreWordsOf, AreRefused, TakeNothing}
use Rattle.fold_commands.specs.Outcome.{AreLeft, AreRead, AreUnread, Does, DoesFrom, DoesWith, Makes, format_of, strip_of, IsOutcome, KeepsToOutcome, HasOutcome}
use Rattle.fold_commands.specs.declared.input.Input.{Input}
use Rattle.fold_commands.specs.declared.status.Status.{Status}
use Rattle.fold_commands.specs.declared.status.Status.TheVariants.{Done, No, Words, Read, Write, Memory}
use Rattle.fold_commands.specs.declared.status.NoCause.{NoCause}
use Rattle.fold_commands.specs.declared.status.WordsCause.{WordsCause}
use Rattle.fold_commands.specs.declared.status.WordsCause.TheVariants.{Refused, Value}
use Rattle.fold_commands.specs.declared.words.Command.{Command}
use Rattle.fold_commands.specs.declared.words.Format.{Format}
use Rattle.fold_commands.proofs.Decide.{refused_words}
use Rattle.fold_commands.proofs.Chain.{ends_following, ends_here, ends_on}

some_left : (left : Option (List ℕ)) → (bytes : List ℕ) × AreLeft left bytes
some_left None = ([], tt)
some_left (Some bytes) = (bytes, refl)

-- the words are refused, whatever the bytes are
pub refused : (words : List (List ℕ)) (left : Option (List ℕ)) (status : Status) → (status ≡ Memory) ⊎ AreRefused words status
    → (bytes : List ℕ) × AreLeft left bytes × (let r : Result (List ℕ) Status = Err status in Ends (IsOutcome words bytes) r)
refused words left status (inl memory) = let bytes = some_left left in (bytes.0, bytes.1, inl (inr memory))
refused words left status (inr h) = let bytes = some_left left in (bytes.0, bytes.1, ends_here (AreRefused words) (AreWordsOf words) (λ command. Does command bytes.0) status h)

-- the bytes were read, and this was made of what they spell
pub made : (left : Option (List ℕ)) (command : Command) (format : Format) → format ≡ format_of command
    → (spelled : Input) → ((bytes : List ℕ) × AreLeft left bytes × AreRead format bytes spelled) → (r : Result (List ℕ) Status) → Follows (Makes command spelled) r
    → (bytes : List ℕ) × AreLeft left bytes × Ends (DoesWith command bytes) r
made left command format same spelled read r follows = (
  read.0,
  read.1,
  ends_on (AreUnread (format_of command) read.0) (AreRead (format_of command) read.0) (Makes command) spelled (subst (λ f. AreRead f read.0 spelled) same read.2) r
      (ends_following (Makes command spelled) r follows),
)

-- the text of a strip was read, and this was made of it
pub of_text : (count : ℕ) (command : Command) (text : List ℕ) → IsStripText count text → (r : Result (List ℕ) Status)
    → ((bytes : List ℕ) × (bytes ≡ text) × Ends (DoesWith command bytes) r) → Ends (DoesFrom (Some count) command []) r
of_text count command text is r read =
    ends_on NeverStops (IsStripText count) (DoesWith command) read.0 (subst (IsStripText count) (sym read.1) is) r read.2

-- what doesn't fail to read
pub unread : (r : Result (List ℕ) Status) → (r ≡ Err Read → ⊥) → IfErr r (λ status. status ≢ Read)
unread (Ok text) never = tt
unread (Err status) never = λ e. never (ap Err e)

pub status_unread : (r : Result (List ℕ) Status) → IfErr r (λ status. status ≢ Read) → status_of r ≢ Read
status_unread (Ok text) h = λ e. cc
status_unread (Err status) h = h

-- the words are those of a command that makes this of the input
pub of_input : (words : List (List ℕ)) (left : Option (List ℕ)) (command : Command) → AreWordsOf words command → strip_of command ≡ None
    → (r : Result (List ℕ) Status) → ((bytes : List ℕ) × AreLeft left bytes × Ends (DoesWith command bytes) r)
    → (bytes : List ℕ) × AreLeft left bytes × Ends (IsOutcome words bytes) r
of_input words left command h none r ends = (
  ends.0,
  ends.1,
  ends_on (AreRefused words) (AreWordsOf words) (λ command. Does command ends.0) command h r
      (subst (λ strip. Ends (DoesFrom strip command ends.0) r) (sym none) ends.2),
)

-- the words are those of a command that makes this of the text of a strip, whatever the bytes are
pub of_strip : (words : List (List ℕ)) (left : Option (List ℕ)) (command : Command) → AreWordsOf words command → (count : ℕ)
    → strip_of command ≡ Some count → (r : Result (List ℕ) Status) → Ends (DoesFrom (Some count) command []) r
    → (bytes : List ℕ) × AreLeft left bytes × Ends (IsOutcome words bytes) r
of_strip words left command h count some r ends =
    let bytes = some_left left in (
      bytes.0,
      bytes.1,
      ends_on (AreRefused words) (AreWordsOf words) (λ command. Does command bytes.0) command h r
          (subst (λ strip. Ends (DoesFrom strip command bytes.0) r) (sym some) ends),
    )

gains_none : (told : Option (List ℕ)) → Gains told told []
gains_none None = tt
gains_none (Some bytes) = sym (append-nil bytes)

keeps : (words : List (List ℕ)) (bytes : List ℕ) (told : Option (List ℕ)) (status : Status) → (let r : Result (List ℕ) Status = Err status in Ends (IsOutcome words bytes) r) → due_with status ≡ [] → status ≢ Write → KeepsToOutcome words bytes told told status
keeps words bytes told status (inl (inl read)) none other = (inl (subst IsFailure (sym read) tt), λ e. absurd (other e))
keeps words bytes told status (inl (inr memory)) none other = (inl (subst IsFailure (sym memory) tt), λ e. absurd (other e))
keeps words bytes told status (inr h) none other =
    (inr (due_with status, h, subst (Gains told told) (sym none) (gains_none told)), λ e. absurd (other e))

-- a step stopped, and nothing was written
pub stopped : (words : List (List ℕ)) (left told : Option (List ℕ)) (status : Status) → ((bytes : List ℕ) × AreLeft left bytes × (let r : Result (List ℕ) Status = Err status in Ends (IsOutcome words bytes) r))
    → due_with status ≡ [] → status ≢ Write → HasOutcome words left told told status
stopped words left told status ends none other = (ends.0, ends.1, keeps words ends.0 told status ends.2 none other)

-- an answer is no failure to write
no_write : (due : Status) → IsAnswer due → ¬ (due ≡ Write)
no_write Done answer e = cc
no_write (No cause) answer e = cc
no_write _ answer e = answer

-- the line of a no is due
line_due : (words : List (List ℕ)) (bytes : List ℕ) (cause : NoCause) → (let r : Result (List ℕ) Status = Err (No cause) in Ends (IsOutcome words bytes) r)
    → IsOutcome words bytes (No cause) (no_line cause)
line_due words bytes cause (inl (inl e)) = absurd (cc)
line_due words bytes cause (inl (inr e)) = absurd (cc)
line_due words bytes cause (inr h) = h

pub answered : (words : List (List ℕ)) (left : Option (List ℕ)) (status : Status) (cause : NoCause) → status ≡ No cause
    → ((bytes : List ℕ) × AreLeft left bytes × (let r : Result (List ℕ) Status = Err status in Ends (IsOutcome words bytes) r))
    → (bytes : List ℕ) × AreLeft left bytes × IsOutcome words bytes (No cause) (no_line cause)
answered words left status cause is ends =
    (ends.0, ends.1, line_due words ends.0 cause (subst (λ (s : Status). let r : Result (List ℕ) Status = Err s in Ends (IsOutcome words ends.0) r) is ends.2))

-- a text was due with a status, and it was put, or a part of it
module _ {T : Type 0} (written : T → Option (List ℕ)) (faults : T → ℕ) (old new : T) (due : Status) (answer : IsAnswer due)
    (text : List ℕ) (status : Status) (puts : PutsText written faults old new due text status) where
  pub put_due : (words : List (List ℕ)) (left : Option (List ℕ))
      → ((bytes : List ℕ) × AreLeft left bytes × IsOutcome words bytes due text)
      → HasOutcome words left (written old) (written new) status
  put_due words left ends = elim puts [
    | inl p ↦ (
      ends.0,
      ends.1,
      (inr (text, subst (λ s. IsOutcome words ends.0 s text) (sym p.0) ends.2, p.1), λ e. absurd (no_write due answer (sym p.0 ∙ e))),
    )
    | inr p ↦ (ends.0, ends.1, (inl (subst IsFailure (sym p.0) tt), λ e. (due, text, answer, ends.2, p.1)))
  ]

  pub puts_due : PutsInto faults old new status
  puts_due = elim puts [
    | inl p ↦ record {
      nothing = λ no other. absurd (no (subst IsAnswer (sym p.0) answer));
      failed = λ e. absurd (no_write due answer (sym p.0 ∙ e));
    }
    | inr p ↦ record { nothing = λ no other. absurd (other p.0); failed = λ e. p.2 }
  ]

-- ---- the source

gives_none : (told : Option (List ℕ)) → Gives told told []
gives_none None = tt
gives_none (Some bytes) = refl

-- what was taken for an answer is as much where writing or memory fails then
module _ {S : Type 0} (left : S → Option (List ℕ)) (faults : S → ℕ) (words : List (List ℕ)) (old new : S) where
  takes_write : (due : Status) → IsAnswer due → TakesFrom left faults words old new due → TakesFrom left faults words old new Write
  takes_write Done answer t = record { taken = t.taken; all = t.all; nothing = λ n. ((t.nothing n).0, λ e. cc); failed = λ e. absurd (cc) }
  takes_write (No cause) answer t = record { taken = t.taken; all = t.all; nothing = λ n. ((t.nothing n).0, λ e. cc); failed = λ e. absurd (cc) }
  takes_write _ answer t = absurd answer

  pub takes_memory : (cause : NoCause) → TakesFrom left faults words old new (No cause) → TakesFrom left faults words old new Memory
  takes_memory cause t = record { taken = t.taken; all = λ h. absurd h; nothing = λ n. ((t.nothing n).0, λ e. cc); failed = λ e. absurd (cc) }

  pub takes_due : {T : Type 0} (written : T → Option (List ℕ)) (puts_faults : T → ℕ) (before after : T) (due : Status) → IsAnswer due
      → (text : List ℕ) (status : Status) → PutsText written puts_faults before after due text status
      → TakesFrom left faults words old new due → TakesFrom left faults words old new status
  takes_due written puts_faults before after due answer text status puts t = elim puts [
    | inl p ↦ subst (TakesFrom left faults words old new) (sym p.0) t
    | inr p ↦ subst (TakesFrom left faults words old new) (sym p.0) (takes_write due answer t)
  ]

-- what is taken from the input
pub takes_input : {S : Type 0} (left : S → Option (List ℕ)) (faults : S → ℕ) (words : List (List ℕ)) (old new : S) (status : Status)
    → ((bytes : List ℕ) × Gives (left old) (left new) bytes × Takes status (length bytes))
    → (TakesAll status → IsSpent (left new)) → ¬ TakeNothing words → (status ≡ Read → Rose (faults old) (faults new))
    → TakesFrom left faults words old new status
takes_input left faults words old new status taken end reads failed = record {
  taken = (taken.0, taken.1, inr taken.2);
  all = λ h. inr (end h);
  nothing = λ nothing. absurd (reads nothing);
  failed = failed;
}

-- where the words take nothing, nothing is taken
pub takes_none : {S : Type 0} (left : S → Option (List ℕ)) (faults : S → ℕ) (words : List (List ℕ)) (source : S) (status : Status)
    → TakeNothing words → status ≢ Read → TakesFrom left faults words source source status
takes_none left faults words source status nothing unread = record {
  taken = ([], gives_none (left source), inl nothing);
  all = λ h. inl nothing;
  nothing = λ h. (refl, unread);
  failed = λ e. absurd (unread e);
}

-- where the words are refused, nothing is taken
pub untaken : {S : Type 0} (left : S → Option (List ℕ)) (faults : S → ℕ) (words : List (List ℕ)) (source : S) (status : Status) → (status ≡ Memory) ⊎ AreRefused words status
    → TakesFrom left faults words source source status
untaken {S} left faults words source status (inl memory) = subst (TakesFrom left faults words source source) (sym memory) (record {
  taken = ([], gives_none (left source), inr (omega arith));
  all = λ h. absurd h;
  nothing = λ h. (refl, λ e. cc);
  failed = λ e. absurd (cc);
})
untaken {S} left faults words source status (inr refused) = by_cause (refused_words words status refused)
  where
    at : (cause : WordsCause) → TakesFrom left faults words source source (Words cause)
    at cause = record {
      taken = ([], gives_none (left source), inr (omega arith));
      all = λ h. absurd h;
      nothing = λ h. (refl, λ e. cc);
      failed = λ e. absurd (cc);
    }

    by_cause : (status ≡ Words Refused) ⊎ (status ≡ Words Value) → TakesFrom left faults words source source status
    by_cause (inl e) = subst (TakesFrom left faults words source source) (sym e) (at Refused)
    by_cause (inr e) = subst (TakesFrom left faults words source source) (sym e) (at Value)
