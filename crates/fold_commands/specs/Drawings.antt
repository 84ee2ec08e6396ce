-- lines as a drawing, and a drawing as a file
use Rattle.std.specs.Prelude.{◌≡◌, ℕ, ◌<◌, ◌≤◌, ◌^◌, List, [], ◌∷◌, ◌++◌, length, codes, Option, None}
use Rattle.std.specs.List.{All, AllByRecursion}
use Rattle.algebra.specs.LowestTerms.{Parts}
use Rattle.cp_lines.specs.declared.line.CpLine.{CpLine}
use Rattle.crease_input.specs.Files.{IsDrawingFile}
use Rattle.crease_input.specs.Lines.{IsReadable}
use Rattle.crease_input.specs.Readings.{HaveEnds, HaveUnread}
use Rattle.crease_input.specs.declared.fault.InputFault.{InputFault}
use Rattle.fold_keys.specs.Trees.{tree_of_file}
use Rattle.fold_keys.specs.declared.value.FaceOrder.{FaceOrder}
use Rattle.json_tree.specs.PrintedForm as json_form
use Rattle.number_rules.specs.declared.unread.Row.{Row}
use Rattle.number_rules.specs.declared.unread.Row.TheVariants as rows
use Rattle.rational.specs.Rationals.{rational_parts}
use Rattle.scaled_plane.specs.declared.drawing.Ends.{Ends}
use Rattle.scaled_plane.specs.declared.drawing.Face.{Face}
use Rattle.fold_commands.specs.Fields.{parts_over_three, parts_over_two}
use Rattle.fold_commands.specs.Status.{of_input}
use Rattle.fold_commands.specs.Steps.{Answers, Outcome, Then}
use Rattle.fold_commands.specs.declared.number_option.NumberChoice.{NumberChoice}
use Rattle.fold_commands.specs.declared.number_option.NumberChoice.TheVariants.{Exact, Grid, RootTwo, RootThree}
use Rattle.fold_commands.specs.declared.status.Status.{Status}

-- lines that a text spells: each is of a kind of its format, their numbers are short enough to be
-- read by their values, and there are fewer than ids can tell the ends of
pub record AreSoundLines (lines : List CpLine) : Type 0 where
  pub kinds : All (λ line. line.kind ≤ 4) lines
  pub readable : AllByRecursion IsReadable lines
  pub few : length lines < 2 ^ 31

-- what a step stops with that never stops
abbrev pub NeverStops : Status → Type 0
NeverStops status = ⊥

-- the file of a drawing of this class, in its printed form, which becomes a line
module _ {N : Type 0} (k : ℕ) (parts : N → Parts) where
  abbrev pub WritesFile : List ℕ → Ends N → Option (List Face) → Option (List FaceOrder) → Outcome
  WritesFile class ends faces orders =
      Then NeverStops (IsDrawingFile k parts class ends faces orders)
      (λ file. Answers (json_form.printed_form (tree_of_file file) ++ 10 ∷ []))

-- ---- lines by a row of the table of rules

module _ {N : Type 0} (k : ℕ) (parts : N → Parts) (row : Row) where
  -- a coordinate of the lines isn't read, and the status names the first
  abbrev pub LackEnds : List CpLine → Status → Type 0
  LackEnds lines status =
      (fault : InputFault) × HaveUnread k parts row lines fault × (status ≡ of_input fault)

  -- the vertices and edges of lines become a crease pattern without faces
  abbrev pub DrawsLines : List CpLine → Outcome
  DrawsLines lines =
      Then (LackEnds lines) (HaveEnds k parts row lines)
      (λ ends. WritesFile k parts (codes "creasePattern") ends None None)

-- the same by each choice of numbers
abbrev pub DrawsBy : NumberChoice → List CpLine → Outcome
DrawsBy Exact = DrawsLines 1 rational_parts rows.Exact
DrawsBy (Grid n) = DrawsLines 1 rational_parts (rows.Grid n.value)
DrawsBy (RootTwo n) = DrawsLines 2 parts_over_two (rows.Root n.value)
DrawsBy (RootThree n) = DrawsLines 3 parts_over_three (rows.Root n.value)
