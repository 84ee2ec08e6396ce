-- what `drill` makes: what `judge` makes of the text of a strip, with a line on the strip in place of yes
use Rattle.std.specs.Prelude.{◌≡◌, ◌≢◌, ◌⊎◌, ℕ, ◌-◌, ◌*◌, ◌/◌, List, [], ◌∷◌, ◌++◌, codes}
use Rattle.std.specs.Fmt.{decimal}
use Rattle.crease_input.specs.Strips.{IsStrip}
use Rattle.fold_keys.specs.Trees.{tree_of_file}
use Rattle.fold_keys.specs.declared.value.FoldFile.{FoldFile}
use Rattle.json_tree.specs.PrintedForm.{printed_form}
use Rattle.fold_commands.specs.Judges.{Judges}
use Rattle.fold_commands.specs.Steps.{Outcome}
use Rattle.fold_commands.specs.declared.input.Input.{Input}
use Rattle.fold_commands.specs.declared.number_option.NumberChoice.TheVariants.{Exact}
use Rattle.fold_commands.specs.declared.status.Status.{Status}
use Rattle.fold_commands.specs.declared.status.Status.TheVariants.{Done}
use Rattle.fold_commands.specs.declared.words.DrillOptions.{DrillOptions}
use Rattle.fold_commands.specs.declared.words.JudgeOptions.{JudgeOptions}

-- the text is the printed form of the file of a strip of so many squares, in a line
abbrev pub IsStripText : ℕ → List ℕ → Type 0
IsStripText count text =
    (file : FoldFile) × IsStrip count file × (text ≡ printed_form (tree_of_file file) ++ 10 ∷ [])

-- how `judge` judges where nothing is said of its options
abbrev pub plainly : JudgeOptions
plainly = record { frame = 0; number = Exact; orders = 0 }

-- how many faces, creases and orders a strip has, and the verdict
abbrev pub strip_line : ℕ → List ℕ
strip_line count =
    codes "faces " ++ decimal count ++ codes " creases " ++ decimal (count - 1) ++ codes " orders "
    ++ decimal (count * (count - 1) / 2) ++ codes " verdict yes" ++ 10 ∷ []

-- the same outcome, but where it is done this line is due
abbrev pub InPlaceOfYes : List ℕ → Outcome → Outcome
InPlaceOfYes line outcome status text =
    ((status ≡ Done) × ((yes : List ℕ) × outcome Done yes) × (text ≡ line))
    ⊎ ((status ≢ Done) × outcome status text)

abbrev pub Drills : DrillOptions → Input → Outcome
Drills options spelled = InPlaceOfYes (strip_line options.count) (Judges plainly spelled)
