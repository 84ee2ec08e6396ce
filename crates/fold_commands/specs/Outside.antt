-- what becomes of the source and of the sink
use Rattle.std.specs.Prelude.{◌≡◌, ◌≢◌, ◌⊎◌, ℕ, ◌+◌, ◌≤◌, List, length}
use Rattle.std.specs.declared.option.Option.{Option}
use Rattle.fold_base.specs.Outside.{Gains, GainsPart, Gives, IsSpent, Rose}
use Rattle.fold_base.specs.declared.outside.TheConstants.{MOST_BYTES}
use Rattle.fold_commands.specs.Status.{IsAnswer}
use Rattle.fold_commands.specs.Words.{TakeNothing}
use Rattle.fold_commands.specs.declared.status.Status.{Status}
use Rattle.fold_commands.specs.declared.status.Status.TheVariants.{Words, Read, Write, Limit, Memory}
use Rattle.fold_commands.specs.declared.status.Limit.TheVariants.{TooLong}

-- so many bytes are taken: one past the limit where there are too many, and else none past it
abbrev pub Takes : Status → ℕ → Type 0
Takes (Limit TooLong) taken = taken ≡ MOST_BYTES + 1
Takes _ taken = taken ≤ MOST_BYTES

-- with this status the input was read to its end: it is none of those that may come before
abbrev pub TakesAll : Status → Type 0
TakesAll (Words cause) = ⊥
TakesAll Read = ⊥
TakesAll (Limit TooLong) = ⊥
TakesAll Memory = ⊥
TakesAll _ = Unit {0}

-- what a run takes from the source: nothing where the words take nothing, and else no byte after
-- the first that is past the limit; what is read as a text is all that was left, and reading fails
-- only from outside
pub record TakesFrom {S : Type 0} (left : S → Option (List ℕ)) (faults : S → ℕ)
    (words : List (List ℕ)) (old new : S) (status : Status) : Type 0 where
  pub taken : (bytes : List ℕ) × Gives (left old) (left new) bytes × (TakeNothing words ⊎ Takes status (length bytes))
  pub all : TakesAll status → TakeNothing words ⊎ IsSpent (left new)
  pub nothing : TakeNothing words → (new ≡ old) × (status ≢ Read)
  pub failed : status ≡ Read → Rose (faults old) (faults new)

-- what a run does to the sink: nothing where no text is due, and writing fails only from outside
pub record PutsInto {T : Type 0} (faults : T → ℕ) (old new : T) (status : Status) : Type 0 where
  pub nothing : ¬ IsAnswer status → status ≢ Write → new ≡ old
  pub failed : status ≡ Write → Rose (faults old) (faults new)

-- a text that is due with a status is put whole, or a proper part of it, where writing fails from
-- outside
abbrev pub PutsText : {T : Type 0} (written : T → Option (List ℕ)) (faults : T → ℕ) (old new : T)
    → Status → List ℕ → Status → Type 0
PutsText written faults old new due text status =
    ((status ≡ due) × Gains (written old) (written new) text)
    ⊎ ((status ≡ Write) × GainsPart (written old) (written new) text × Rose (faults old) (faults new))
