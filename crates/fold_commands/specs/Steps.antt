-- an outcome is said in steps: each stops with a status, or gives a value to what follows
use Rattle.std.specs.Prelude.{◌≡◌, ◌⊎◌, ℕ, List, [], Result, Ok, Err}
use Rattle.fold_commands.specs.Crossings.{no_line}
use Rattle.fold_commands.specs.declared.status.Status.{Status}
use Rattle.fold_commands.specs.declared.status.Status.TheVariants.{Done, No, Words, Read, Write}
use Rattle.fold_commands.specs.declared.status.Status.TheVariants.{Limit, Memory}
use Rattle.fold_commands.specs.declared.status.Limit.TheVariants.{TooLong}

-- a status, and the text that is due with it
abbrev pub Outcome : Type 1
Outcome = Status → List ℕ → Type 0

-- the text that is due where a step stops with this status: a line where it is `No`, and none with
-- a refusal
abbrev pub due_with : Status → List ℕ
due_with (No cause) = no_line cause
due_with _ = []

-- a step stops, and the text that its status has is due; or it gives a value, and what follows has
-- this outcome
abbrev pub Then : {X : Type 0} → (Status → Type 0) → (X → Type 0) → (X → Outcome) → Outcome
Then {X} stops gives next status text =
    (stops status × (text ≡ due_with status)) ⊎ ((x : X) × gives x × next x status text)

-- the last step: it is done, with this text
abbrev pub Answers : List ℕ → Outcome
Answers due status text = (status ≡ Done) × (text ≡ due)

-- the last step: it stops with this status
abbrev pub StopsWith : Status → Outcome
StopsWith stop status text = (status ≡ stop) × (text ≡ due_with stop)

-- what never comes has no outcome
abbrev pub Never : Outcome
Never status text = ⊥

-- the outcome is one at most: one status, and one text
abbrev pub IsOne : Outcome → Type 0
IsOne outcome = (s s' : Status) (t t' : List ℕ) → outcome s t → outcome s' t' → (s ≡ s') × (t ≡ t')

-- a status with which a command may stop once it has read: what was read decides it, and nothing
-- else
abbrev pub IsStop : Status → Type 0
IsStop Done = ⊥
IsStop (Words cause) = ⊥
IsStop Read = ⊥
IsStop Write = ⊥
IsStop (Limit TooLong) = ⊥
IsStop Memory = ⊥
IsStop _ = Unit {0}

-- what one step of a command answers: a value that it gives, a status with which it stops, or want
-- of memory
abbrev pub Steps : {X : Type 0} → (Status → Type 0) → (X → Type 0) → Result X Status → Type 0
Steps stops gives (Ok value) = gives value
Steps stops gives (Err status) = (status ≡ Memory) ⊎ (IsStop status × stops status)

-- what its steps answer together: the text of the outcome, the status with which one of them stops,
-- or want of memory
abbrev pub Follows : Outcome → Result (List ℕ) Status → Type 0
Follows outcome (Ok text) = outcome Done text
Follows outcome (Err status) =
    (status ≡ Memory) ⊎ (IsStop status × outcome status (due_with status))

-- the same of a whole run, whose words and whose bytes may be refused too, and whose input may not
-- be read to its end
abbrev pub Ends : Outcome → Result (List ℕ) Status → Type 0
Ends outcome (Ok text) = outcome Done text
Ends outcome (Err status) = ((status ≡ Read) ⊎ (status ≡ Memory)) ⊎ outcome status (due_with status)
