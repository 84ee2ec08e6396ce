-- the outcome of words and bytes, and what it has to do with the outside
use Rattle.std.specs.Prelude.{◌≡◌, ◌⊎◌, ℕ, ◌<◌, ◌≤◌, List, [], ◌∷◌, ◌++◌, length, filter}
use Rattle.std.specs.Prelude.{Bool, ◌&&◌, not, codes, Some, None, Result, Ok, Err}
use Rattle.std.specs.List.{starts_with}
use Rattle.std.specs.Str.{bytes_eq}
use Rattle.std.proofs.Math.Dec.{eqb}
use Rattle.std.specs.declared.option.Option.{Option}
use Rattle.fold_base.specs.Outside.{Gains, GainsPart}
use Rattle.fold_base.specs.declared.outside.TheConstants.{MOST_BYTES}
use Rattle.cp_lines.specs.CpText.{CpText}
use Rattle.cp_lines.specs.Print as cp_form
use Rattle.cp_lines.specs.Reads as cp
use Rattle.cp_lines.specs.declared.fault.CpFault.{CpFault}
use Rattle.json_tree.specs.PrintedForm as json_form
use Rattle.json_tree.specs.Spells.{Spells}
use Rattle.json_tree.specs.Tree.{IsProper}
use Rattle.json_tree.specs.declared.tree.Json.{Json}
use Rattle.json_read.specs.Causes as json
use Rattle.json_read.specs.declared.fault.JsonFault.{JsonFault}
use Rattle.fold_frames.specs.Answers.{IsEffective}
use Rattle.fold_frames.specs.Effects.{FrameInEffect}
use Rattle.fold_frames.specs.Inherits.{entries_at}
use Rattle.frame_lines.specs.Lines.{HasLines, HasNoLines}
use Rattle.frame_lines.specs.declared.fault.LinesFault.{LinesFault}
use Rattle.fold_keys.specs.Short.{HasShortLists, HasShortSpec}
use Rattle.fold_keys.specs.Trees.{tree_of_file}
use Rattle.fold_keys.specs.Writable.{file_of}
use Rattle.fold_keys.specs.declared.value.Entry.{Entry}
use Rattle.fold_keys.specs.declared.value.FoldFile.{FoldFile}
use Rattle.fold_commands.specs.Drawings.{AreSoundLines, DrawsBy, NeverStops}
pub use Rattle.fold_commands.specs.Frames.{HasCounts, HasMisfit, HasNoFrame, HasShortTexts, HasUnevenLists, IsFileTree, IsReadFrom}
use Rattle.fold_commands.specs.Folds.{Folds}
use Rattle.fold_commands.specs.Drills.{Drills, IsStripText}
use Rattle.fold_commands.specs.Judges.{Judges}
use Rattle.fold_commands.specs.Repairs.{Repairs}
use Rattle.fold_commands.specs.Status.{IsAnswer, IsFailure, of_lines}
use Rattle.fold_commands.specs.Steps.{Outcome, Then, Answers, Never}
use Rattle.fold_commands.specs.Words.{AreWordsOf, AreRefused, IsOnTexts, TakeNothing}
use Rattle.fold_commands.specs.declared.input.Input.{Input}
use Rattle.fold_commands.specs.declared.input.Input.TheVariants as input
use Rattle.fold_commands.specs.declared.status.Status.{Status}
use Rattle.fold_commands.specs.declared.status.Status.TheVariants.{Text}
use Rattle.fold_commands.specs.declared.status.Status.TheVariants.{Read, Write, Limit, Memory}
use Rattle.fold_commands.specs.declared.status.TextFault.TheVariants as faults
use Rattle.fold_commands.specs.declared.status.Limit.TheVariants.{TooLong}
use Rattle.fold_commands.specs.declared.words.Command.{Command}
use Rattle.fold_commands.specs.declared.words.Command.TheVariants.{Show, Convert, Repair}
use Rattle.fold_commands.specs.declared.words.Command.TheVariants as commands
use Rattle.fold_commands.specs.declared.words.ConvertOptions.{ConvertOptions}
use Rattle.fold_commands.specs.declared.words.ConvertOptions.TheVariants.{Frame, Lines, Drawing}
use Rattle.fold_commands.specs.declared.words.Format.{Format}
use Rattle.fold_commands.specs.declared.words.Format.TheVariants.{Fold, Cp}

-- ---- reading

-- there are more bytes than a text may have
abbrev pub AreTooMany : List ℕ → Status → Type 0
AreTooMany bytes status = (MOST_BYTES < length bytes) × (status ≡ Limit TooLong)

-- the bytes are no text of the format, and the status names their first fault
abbrev pub HaveFault : Format → List ℕ → Status → Type 0
HaveFault Fold bytes status =
    (fault : JsonFault) × json.NamesFirstFault bytes fault × (status ≡ Text (faults.Json fault))
HaveFault Cp bytes status =
    (fault : CpFault) × cp.NamesFirstFault bytes fault × (status ≡ Text (faults.Cp fault))

-- the bytes are a text of the format, and this is what it spells
abbrev pub Spell : Format → List ℕ → Input → Type 0
Spell Fold bytes (input.Fold tree) = Spells bytes tree
Spell Fold bytes (input.Cp lines) = ⊥
Spell Cp bytes (input.Fold tree) = ⊥
Spell Cp bytes (input.Cp lines) = CpText bytes lines

-- the bytes aren't read: there are too many, or else they have a fault
abbrev pub AreUnread : Format → List ℕ → Status → Type 0
AreUnread format bytes status =
    AreTooMany bytes status ⊎ ((length bytes ≤ MOST_BYTES) × HaveFault format bytes status)

-- the bytes are read: there are no more than a text may have, and this is what they spell
abbrev pub AreRead : Format → List ℕ → Input → Type 0
AreRead format bytes spelled = (length bytes ≤ MOST_BYTES) × Spell format bytes spelled

-- what was read is of this format
abbrev pub HasFormat : Format → Input → Type 0
HasFormat Fold (input.Fold tree) = Unit {0}
HasFormat Cp (input.Cp lines) = Unit {0}
HasFormat _ _ = ⊥

-- a tree that FOLD's keys can be read from
pub record IsSoundTree (tree : Json) : Type 0 where
  pub proper : IsProper tree
  pub lists : HasShortLists tree
  pub version : HasShortSpec tree
  pub short : HasShortTexts tree

-- what is so of all that is read: FOLD's keys can be read from a tree, and lines are those of a text
abbrev pub IsSound : Input → Type 0
IsSound (input.Fold tree) = IsSoundTree tree
IsSound (input.Cp lines) = AreSoundLines lines

-- what reading answers: what the bytes spell, a status where they aren't read, or that reading or
-- the memory failed
abbrev pub IsReading : Format → List ℕ → Result Input Status → Type 0
IsReading format bytes (Ok spelled) = AreRead format bytes spelled
IsReading format bytes (Err status) =
    ((status ≡ Read) ⊎ (status ≡ Memory)) ⊎ AreUnread format bytes status

-- ---- the commands

-- a tree is refused at its first misfit, or else shown in its printed form, which becomes a line
abbrev pub ShowsTree : Json → Outcome
ShowsTree tree =
    Then (HasMisfit tree) (IsFileTree tree)
    (λ of_file. Answers (json_form.printed_form of_file ++ 10 ∷ []))

-- what was read, in its printed form
abbrev pub Shows : Input → Outcome
Shows (input.Fold tree) = ShowsTree tree
Shows (input.Cp lines) = Answers (cp_form.printed_form lines)

-- ---- convert

-- what a file says of itself, without its frames
abbrev pub is_of_file : List ℕ → Bool
is_of_file key = starts_with eqb key (codes "file_") && not (bytes_eq key (codes "file_frames"))

abbrev pub of_file : FoldFile → List Entry
of_file file = filter (λ e. is_of_file e.key) (entries_at file.frames 0)

-- the file that says the same of itself and has this frame alone
abbrev pub with_frame : FoldFile → FrameInEffect → FoldFile
with_frame file frame = file_of (of_file file ++ frame.entries)

-- the frame has no lines, and the status names why
abbrev pub LacksLines : FrameInEffect → Status → Type 0
LacksLines frame status =
    (fault : LinesFault) × HasNoLines frame.entries fault × (status ≡ of_lines fault)

-- the lines of the frame's edges, if it has some
abbrev pub WritesLines : FrameInEffect → Outcome
WritesLines frame =
    Then (LacksLines frame) (HasLines frame.entries) (λ lines. Answers (cp_form.printed_form lines))

-- the frame in place of all frames of its file, or its lines
abbrev pub WritesFrame : Format → FoldFile → FrameInEffect → Outcome
WritesFrame Fold file frame =
    Answers (json_form.printed_form (tree_of_file (with_frame file frame)) ++ 10 ∷ [])
WritesFrame Cp file frame = WritesLines frame

-- an effective frame is refused where its lists don't agree, or else written
abbrev pub ConvertsFrame : Format → FoldFile → FrameInEffect → Outcome
ConvertsFrame to file frame =
    Then (HasUnevenLists frame) (HasCounts frame) (λ counts. WritesFrame to file frame)

-- the frame with this number, if there is one
abbrev pub ConvertsFile : Format → ℕ → FoldFile → Outcome
ConvertsFile to number file =
    Then (HasNoFrame file number) (IsEffective file.frames number) (ConvertsFrame to file)

-- a tree is refused at its first misfit, or else its file is converted
abbrev pub ConvertsTree : Format → ℕ → Json → Outcome
ConvertsTree to number tree = Then (HasMisfit tree) (IsReadFrom tree) (ConvertsFile to number)

abbrev pub Converts : ConvertOptions → Input → Outcome
Converts (Frame frame to) (input.Fold tree) = ConvertsTree to frame tree
Converts (Frame frame to) (input.Cp lines) = Never
Converts Lines (input.Fold tree) = Never
Converts Lines (input.Cp lines) = Answers (cp_form.printed_form lines)
Converts (Drawing number) (input.Fold tree) = Never
Converts (Drawing number) (input.Cp lines) = DrawsBy number lines

-- ---- all commands

-- the format that a command reads
abbrev pub format_of : Command → Format
format_of (Show options) = options.from
format_of (Convert (Frame frame to)) = Fold
format_of (Convert Lines) = Cp
format_of (Convert (Drawing number)) = Cp
format_of (Repair options) = options.from
format_of (commands.Fold options) = Fold
format_of (commands.Judge options) = Fold
format_of (commands.Drill options) = Fold

-- what a command makes of what it read
abbrev pub Makes : Command → Input → Outcome
Makes (Show options) = Shows
Makes (Convert options) = Converts options
Makes (Repair options) = Repairs options
Makes (commands.Fold options) = Folds options
Makes (commands.Judge options) = Judges options
Makes (commands.Drill options) = Drills options

-- what a command makes of the bytes: they aren't read, or it makes something of what they spell
abbrev pub DoesWith : Command → List ℕ → Outcome
DoesWith command bytes =
    Then (AreUnread (format_of command) bytes) (AreRead (format_of command) bytes) (Makes command)

-- the squares of the strip whose text a command reads in place of the input, if it does
abbrev pub strip_of : Command → Option ℕ
strip_of (Show options) = None
strip_of (Convert options) = None
strip_of (Repair options) = None
strip_of (commands.Fold options) = None
strip_of (commands.Judge options) = None
strip_of (commands.Drill options) = Some options.count

-- what a command makes of the bytes, or of the text of a strip
abbrev pub DoesFrom : Option ℕ → Command → List ℕ → Outcome
DoesFrom None command bytes = DoesWith command bytes
DoesFrom (Some count) command bytes = Then NeverStops (IsStripText count) (DoesWith command)

abbrev pub Does : Command → List ℕ → Outcome
Does command bytes = DoesFrom (strip_of command) command bytes

-- the outcome of words and bytes: the words are refused, or they are a command's, which does
-- something
abbrev pub IsOutcome : List (List ℕ) → List ℕ → Outcome
IsOutcome words bytes = Then (AreRefused words) (AreWordsOf words) (λ command. Does command bytes)

-- ---- the outside

-- the bytes that the outcome is of: all that are left, or any where the words take nothing
abbrev pub AreInput : List (List ℕ) → Option (List ℕ) → List ℕ → Type 0
AreInput words left bytes = (left ≡ Some bytes) ⊎ TakeNothing words

-- these bytes are all that are left, where that is told
abbrev pub AreLeft : Option (List ℕ) → List ℕ → Type 0
AreLeft None bytes = Unit {0}
AreLeft (Some left) bytes = bytes ≡ left

-- the status is the outcome, and, where the sink tells its bytes, its text was written and nothing
-- else
abbrev pub IsOutcomeWritten : List (List ℕ) → List ℕ → Option (List ℕ) → Option (List ℕ) → Status
    → Type 0
IsOutcomeWritten words bytes before after status =
    (text : List ℕ) × IsOutcome words bytes status text × Gains before after text

-- a text was due, and, where the sink tells its bytes, a proper prefix of it was written
abbrev pub IsOutcomeCutShort : List (List ℕ) → List ℕ → Option (List ℕ) → Option (List ℕ) → Type 0
IsOutcomeCutShort words bytes before after =
    (due : Status) × (text : List ℕ) × IsAnswer due × IsOutcome words bytes due text
    × GainsPart before after text

-- unless the outside or the memory failed, the status is the outcome and its text was written;
-- where writing failed, a proper prefix of it was
abbrev pub KeepsToOutcome : List (List ℕ) → List ℕ → Option (List ℕ) → Option (List ℕ) → Status
    → Type 0
KeepsToOutcome words bytes before after status =
    (IsFailure status ⊎ IsOutcomeWritten words bytes before after status)
    × (status ≡ Write → IsOutcomeCutShort words bytes before after)

-- the same of all the bytes that were left, or of some where that isn't told
abbrev pub HasOutcome : List (List ℕ) → Option (List ℕ) → Option (List ℕ) → Option (List ℕ) → Status
    → Type 0
HasOutcome words left before after status =
    (bytes : List ℕ) × AreLeft left bytes × KeepsToOutcome words bytes before after status

-- the words ask for nothing but texts, if for anything
abbrev pub AskForTexts : List (List ℕ) → Type 0
AskForTexts words = (command : Command) → AreWordsOf words command → IsOnTexts command

-- words and bytes have an outcome
abbrev pub HaveOutcome : List (List ℕ) → List ℕ → Type 0
HaveOutcome words bytes = (status : Status) × (text : List ℕ) × IsOutcome words bytes status text

-- words and bytes have one outcome at most: one status, and one text
abbrev pub HaveAtMostOneOutcome : List (List ℕ) → List ℕ → Type 0
HaveAtMostOneOutcome words bytes = (s s' : Status) (t t' : List ℕ) → IsOutcome words bytes s t
    → IsOutcome words bytes s' t' → (s ≡ s') × (t ≡ t')
