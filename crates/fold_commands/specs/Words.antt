-- the words of the command line
use Rattle.std.specs.Prelude.{◌≡◌, ◌≢◌, ◌≤◌, ◌⊎◌, ◌++◌, ◌∷◌, ℕ, List, [], map, fold, Option, Some}
use Rattle.std.specs.Prelude.{None, String, string_bytes, codes, IsTrue, true, if◌then◌else◌}
use Rattle.std.specs.List.{find, list_any}
use Rattle.std.specs.Str.{bytes_eq}
use Rattle.std.specs.declared.alloc.Global.{Global}
use Rattle.clap.specs.Words.{App, Kinds, Row, Rule, Shape, fault_of, first_of, new_rule, new_app}
use Rattle.clap.specs.Words.{subcommand_of, with_subcommand}
use Rattle.clap.specs.Simple.{new_shape}
use Rattle.clap.specs.declared.builder.action.ArgAction.TheVariants.{Set}
use Rattle.drawing_repair.specs.declared.options.Faces.{Faces}
use Rattle.drawing_repair.specs.declared.options.Faces.TheVariants.{Find, Skip}
use Rattle.drawing_repair.specs.declared.options.Flat.{Flat}
use Rattle.drawing_repair.specs.declared.options.Flat.TheVariants.{Keep, Drop}
use Rattle.fold_keys.specs.Elements.{id_in_text}
use Rattle.fold_commands.specs.NumberOption.{NamesChoice}
use Rattle.fold_commands.specs.declared.number_option.NumberChoice.{NumberChoice}
use Rattle.fold_commands.specs.declared.number_option.NumberChoice.TheVariants.{Exact}
use Rattle.fold_commands.specs.declared.words.Entry.{Entry}
use Rattle.fold_commands.specs.declared.words.Command.{Command}
use Rattle.fold_commands.specs.declared.words.Command.TheVariants.{Show, Convert, Repair}
use Rattle.fold_commands.specs.declared.words.Command.TheVariants as commands
use Rattle.fold_commands.specs.declared.words.ConvertOptions.{ConvertOptions}
use Rattle.fold_commands.specs.declared.words.ConvertOptions.TheVariants.{Frame, Lines, Drawing}
use Rattle.fold_commands.specs.declared.words.DrillOptions.{DrillOptions}
use Rattle.fold_commands.specs.declared.words.FoldOptions.{FoldOptions}
use Rattle.fold_commands.specs.declared.words.JudgeOptions.{JudgeOptions}
use Rattle.fold_commands.specs.declared.words.RepairOptions.{RepairOptions}
use Rattle.fold_commands.specs.declared.words.ShowOptions.{ShowOptions}
use Rattle.fold_commands.specs.declared.words.Format.{Format}
use Rattle.fold_commands.specs.declared.words.Format.TheVariants.{Fold, Cp}
use Rattle.fold_commands.specs.declared.status.Status.{Status}
use Rattle.fold_commands.specs.declared.status.Status.TheVariants.{Words, Memory}
use Rattle.fold_commands.specs.declared.status.WordsCause.{WordsCause}
use Rattle.fold_commands.specs.declared.status.WordsCause.TheVariants.{Refused, Value}

abbrev pub Text : Type 0
Text = List ℕ

-- the words as texts
abbrev pub texts : List (String Global) → List Text
texts words = map string_bytes words

-- ---- the table

-- a command and the options that it takes, by name
pub record Listed : Type 0 where
  pub name : Text
  pub options : List Text

abbrev pub table : List Listed
table =
    record { name = codes "show"; options = codes "from" ∷ [] } ∷
    record { name = codes "convert"; options = codes "from" ∷ codes "to" ∷ codes "frame" ∷ codes "number" ∷ [] } ∷
    record {
      name = codes "repair";
      options = codes "from" ∷ codes "to" ∷ codes "frame" ∷ codes "number" ∷ codes "flat" ∷ codes "faces" ∷ [];
    } ∷
    record { name = codes "fold"; options = codes "frame" ∷ codes "number" ∷ [] } ∷
    record { name = codes "judge"; options = codes "frame" ∷ codes "number" ∷ codes "orders" ∷ [] } ∷
    record { name = codes "drill"; options = codes "count" ∷ [] } ∷
    []

-- the text that names a format
abbrev pub name_of : Format → Text
name_of Fold = codes "fold"
name_of Cp = codes "cp"

abbrev pub NamesFormat : Text → Format → Type 0
NamesFormat text format = text ≡ name_of format

-- the text spells this number, in digits and in one way
abbrev pub NamesNumber : Text → ℕ → Type 0
NamesNumber text number = id_in_text text ≡ Some number

-- the text spells a number of squares
abbrev pub NamesCount : Text → ℕ → Type 0
NamesCount text count = NamesNumber text count × (1 ≤ count) × (count ≤ 500)

-- the text that names what becomes of segments with the letter F
abbrev pub name_of_flat : Flat → Text
name_of_flat Keep = codes "keep"
name_of_flat Drop = codes "drop"

abbrev pub NamesFlat : Text → Flat → Type 0
NamesFlat text flat = text ≡ name_of_flat flat

-- the text that names whether faces are looked for
abbrev pub name_of_faces : Faces → Text
name_of_faces Find = codes "yes"
name_of_faces Skip = codes "no"

abbrev pub NamesFaces : Text → Faces → Type 0
NamesFaces text faces = text ≡ name_of_faces faces

-- what is said of an option: its value is the one that the text names, and its default where
-- nothing is said
abbrev pub Says : {X : Type 0} → (Text → X → Type 0) → X → Option Text → X → Type 0
Says names default None value = value ≡ default
Says names default (Some text) value = names text value

-- what is said of each option means these
abbrev pub MeanShow : (Text → Option Text) → ShowOptions → Type 0
MeanShow said options = Says NamesFormat Fold (said (codes "from")) options.from

-- what is converted between these formats: a frame of a file, lines as they are, or lines to a file
-- by a choice of numbers
abbrev pub IsConversion : Format → Format → ℕ → NumberChoice → ConvertOptions → Type 0
IsConversion from to place choice (Frame frame other) =
    (from ≡ Fold) × (to ≡ other) × (place ≡ frame)
IsConversion from to place choice Lines = (from ≡ Cp) × (to ≡ Cp)
IsConversion from to place choice (Drawing number) =
    (from ≡ Cp) × (to ≡ Fold) × (choice ≡ number)

-- what is said of each option means a conversion
abbrev pub MeanConvert : (Text → Option Text) → ConvertOptions → Type 0
MeanConvert said options =
    (from to : Format) × (frame : ℕ) × (number : NumberChoice)
    × Says NamesFormat Fold (said (codes "from")) from
    × Says NamesFormat Fold (said (codes "to")) to
    × Says NamesNumber 0 (said (codes "frame")) frame
    × Says NamesChoice Exact (said (codes "number")) number
    × IsConversion from to frame number options

-- what is said of each option means these
pub record MeanRepair (said : Text → Option Text) (options : RepairOptions) : Type 0 where
  pub from : Says NamesFormat Fold (said (codes "from")) options.from
  pub to : Says NamesFormat Fold (said (codes "to")) options.to
  pub frame : Says NamesNumber 0 (said (codes "frame")) options.frame
  pub number : Says NamesChoice Exact (said (codes "number")) options.number
  pub flat : Says NamesFlat Keep (said (codes "flat")) options.flat
  pub faces : Says NamesFaces Find (said (codes "faces")) options.faces

-- what is said of each option means these
pub record MeanFold (said : Text → Option Text) (options : FoldOptions) : Type 0 where
  pub frame : Says NamesNumber 0 (said (codes "frame")) options.frame
  pub number : Says NamesChoice Exact (said (codes "number")) options.number

-- the same, where the orders are those of the frame that is judged if nothing is said of them
pub record MeanJudge (said : Text → Option Text) (options : JudgeOptions) : Type 0 where
  pub frame : Says NamesNumber 0 (said (codes "frame")) options.frame
  pub number : Says NamesChoice Exact (said (codes "number")) options.number
  pub orders : Says NamesNumber options.frame (said (codes "orders")) options.orders

-- what is said of the option means these
abbrev pub MeanDrill : (Text → Option Text) → DrillOptions → Type 0
MeanDrill said options = Says NamesCount 100 (said (codes "count")) options.count

-- a command's name, and what is said of each option, mean this command
abbrev pub Mean : Text → (Text → Option Text) → Command → Type 0
Mean name said (Show options) = (name ≡ codes "show") × MeanShow said options
Mean name said (Convert options) = (name ≡ codes "convert") × MeanConvert said options
Mean name said (Repair options) = (name ≡ codes "repair") × MeanRepair said options
Mean name said (commands.Fold options) = (name ≡ codes "fold") × MeanFold said options
Mean name said (commands.Judge options) = (name ≡ codes "judge") × MeanJudge said options
Mean name said (commands.Drill options) = (name ≡ codes "drill") × MeanDrill said options

-- ---- the words as `clap` takes them

-- an entry of the program's own table
abbrev pub as_listed : Entry → Listed
as_listed entry = record {
  name = entry.name.now;
  options = map (λ option. option.now) entry.options.now;
}

-- each option takes a value, need not stand there and has no default
abbrev pub option_rule : Text → Rule
option_rule name = record (new_rule name) { long = Some name; action = Some Set }

abbrev pub subcommand_shape : Listed → Shape
subcommand_shape entry = record (new_shape entry.name) { rules = map option_rule entry.options }

-- the command with a subcommand for each entry, whose words begin after the program's name
abbrev pub with_entry : App → Listed → App
with_entry above entry = with_subcommand above (subcommand_shape entry)

abbrev pub no_entries : App
no_entries = record (new_app (codes "fold_program")) {
  top = record (new_shape (codes "fold_program")) { no_binary_name = true };
}

abbrev pub app : App
app = fold with_entry no_entries table

-- why `clap` refuses the words: nothing where it takes them
unfoldable pub faults : List Text → Kinds
faults words = fault_of app words

-- the command that `clap` finds in the words, with a row for each option that stands there
unfoldable pub found : List Text → Option (Text × List Row)
found words = subcommand_of app words

-- the value that the rows give to an option
abbrev pub said_in : List Row → Text → Option Text
said_in rows option = first_of option rows

-- `clap` takes the words, with this command
abbrev pub AreTaken : List Text → Text → List Row → Type 0
AreTaken words name rows = (faults words ≡ []) × (found words ≡ Some (name, rows))

-- ---- what the words mean

abbrev pub AreWordsOf : List Text → Command → Type 0
AreWordsOf words command =
    (name : Text) × (rows : List Row) × AreTaken words name rows × Mean name (said_in rows) command

-- the words are refused: by `clap`, or because it finds no command, or because an option has a
-- value that it doesn't take
abbrev pub AreRefused : List Text → Status → Type 0
AreRefused words status =
    (((faults words ≢ []) ⊎ (found words ≡ None)) × (status ≡ Words Refused))
    ⊎ ((name : Text) × (rows : List Row) × AreTaken words name rows
    × ((command : Command) → ¬ Mean name (said_in rows) command) × (status ≡ Words Value))

-- the status where what is said means nothing: a value is out of the table, unless memory was
-- wanting
abbrev pub MeansNone : {X : Type 0} → (X → Type 0) → Status → Type 0
MeansNone {X} mean status = (status ≡ Memory) ⊎ ((status ≡ Words Value) × ((x : X) → ¬ mean x))

-- what is said of an option names no value, and that is the cause
abbrev pub NamesNothing : {X : Type 0} → (Text → X → Type 0) → X → Option Text → WordsCause → Type 0
NamesNothing {X} names default said cause =
    (cause ≡ Value) × ((x : X) → ¬ Says names default said x)

-- the command reads the input
abbrev pub Reads : Command → Type 0
Reads (Show options) = Unit {0}
Reads (Convert options) = Unit {0}
Reads (Repair options) = Unit {0}
Reads (commands.Fold options) = Unit {0}
Reads (commands.Judge options) = Unit {0}
Reads (commands.Drill options) = ⊥

-- the command works on texts alone: that it has an outcome is shown
abbrev pub IsOnTexts : Command → Type 0
IsOnTexts (Show options) = Unit {0}
IsOnTexts (Convert options) = Unit {0}
IsOnTexts (Repair options) = ⊥
IsOnTexts (commands.Fold options) = ⊥
IsOnTexts (commands.Judge options) = ⊥
IsOnTexts (commands.Drill options) = ⊥

-- nothing is taken from the source: the words are refused, or their command reads no input
abbrev pub TakeNothing : List Text → Type 0
TakeNothing words = (command : Command) → AreWordsOf words command → ¬ Reads command

-- ---- the plain form

-- an option with its value, as one word
abbrev pub plain_word : Text × Text → Text
plain_word p = codes "--" ++ p.0 ++ codes "=" ++ p.1

-- what the pairs say of an option
abbrev pub said_by : List (Text × Text) → Text → Option Text
said_by [] option = None
said_by (p ∷ ps) option = if bytes_eq p.0 option then Some p.1 else said_by ps option

-- the pairs name these options, and none twice
abbrev pub NameOnce : List Text → List (Text × Text) → Type 0
NameOnce options [] = Unit {0}
NameOnce options (p ∷ ps) = IsTrue (list_any (λ option. bytes_eq option p.0) options)
    × (said_by ps p.0 ≡ None) × NameOnce options ps

-- the first entry of the table with this name
abbrev pub entry_of : Text → Option Listed
entry_of name = find (λ entry. bytes_eq entry.name name) table

-- a command of the table, and then options that it takes, each at most once and in any order, with
-- values that they take
abbrev pub ArePlainWordsOf : List Text → Command → Type 0
ArePlainWordsOf words command =
    (entry : Listed) × (pairs : List (Text × Text)) × (entry_of entry.name ≡ Some entry)
    × (words ≡ entry.name ∷ map plain_word pairs) × NameOnce entry.options pairs
    × Mean entry.name (said_by pairs) command
