-- which drawings `repair` never refuses as too wide to write
use Rattle.std.specs.Prelude.{◌≡◌, ℕ, ℤ, ◌==◌, List, Bool, true, false, Option, Some, None}
use Rattle.algebra.specs.LowestTerms.{Parts}
use Rattle.algebra.specs.Surd.{Surd}
use Rattle.algebra.specs.WholeSurds.{SurdNumbers}
use Rattle.crease_input.specs.Roots.{root_of}
use Rattle.drawing_repair.specs.Narrow.{AreNarrow}
use Rattle.drawing_repair.specs.Repaired.{IsRefusal}
use Rattle.drawing_repair.specs.declared.answer.RepairFault.TheVariants as drawing
use Rattle.drawing_repair.specs.declared.answer.Stage.TheVariants as repairing
use Rattle.drawing_repair.specs.declared.options.Faces.{Faces}
use Rattle.drawing_repair.specs.declared.options.Flat.{Flat}
use Rattle.fold_frames.specs.Answers.{IsEffective}
use Rattle.fold_frames.specs.Effects.{FrameInEffect}
use Rattle.fold_keys.specs.declared.value.FoldFile.{FoldFile}
use Rattle.number_rules.specs.declared.unread.Row.{Row}
use Rattle.number_rules.specs.declared.unread.Row.TheVariants as rows
use Rattle.rational.specs.Rationals.{rational_parts}
use Rattle.rational.specs.WholeNumbers as rationals
use Rattle.scaled_plane.specs.declared.drawing.Ends.{Ends}
use Rattle.fold_commands.specs.Fields.{parts_over_three, parts_over_two, whole_over_three, whole_over_two}
use Rattle.fold_commands.specs.Frames.{IsReadFrom}
use Rattle.fold_commands.specs.Outcome.{AreLeft, AreRead}
use Rattle.fold_commands.specs.Repairs.{HasEnds}
use Rattle.fold_commands.specs.Words.{AreWordsOf}
use Rattle.fold_commands.specs.declared.given.Given.{Given}
use Rattle.fold_commands.specs.declared.given.Given.TheVariants as given
use Rattle.fold_commands.specs.declared.input.Input.{Input}
use Rattle.fold_commands.specs.declared.input.Input.TheVariants as input
use Rattle.fold_commands.specs.declared.number_option.NumberChoice.{NumberChoice}
use Rattle.fold_commands.specs.declared.number_option.NumberChoice.TheVariants.{Exact, Grid, RootTwo, RootThree}
use Rattle.fold_commands.specs.declared.status.NumberCause.TheVariants.{TooWide}
use Rattle.fold_commands.specs.declared.status.Stage.TheVariants.{Drawn}
use Rattle.fold_commands.specs.declared.status.Status.{Status}
use Rattle.fold_commands.specs.declared.status.Status.TheVariants.{Number}
use Rattle.fold_commands.specs.declared.words.Command.TheVariants.{Repair}
use Rattle.fold_commands.specs.declared.words.RepairOptions.{RepairOptions}

-- ---- over one kind of numbers

-- no vertex of the drawing between these ends is too wide to write
abbrev pub HasWritableVertices : {N W : Type 0} {root : ℕ} {surd : W → Surd ℤ} → (N → Parts)
    → SurdNumbers root surd → Ends N → Type 0
HasWritableVertices parts numbers ends = (flat : Flat) (faces : Faces) (v : ℕ)
    → ¬ IsRefusal parts numbers flat ends faces (drawing.TooWide v repairing.Drawn)

-- over the rationals for all ends, and over √2 and √3 for those whose coordinates are narrow
pub record NarrowVerticesAreWritable : Type 0 where
  pub rational : (ends : Ends _) → HasWritableVertices rational_parts rationals.whole_numbers ends
  pub over_two : (ends : Ends _) → AreNarrow parts_over_two ends.coords
      → HasWritableVertices parts_over_two whole_over_two ends
  pub over_three : (ends : Ends _) → AreNarrow parts_over_three ends.coords
      → HasWritableVertices parts_over_three whole_over_three ends

-- ---- what was read

-- read by a row of the table of rules, it has coordinates that aren't narrow
abbrev pub HasWide : {N : Type 0} → ℕ → (N → Parts) → Row → Given → Type 0
HasWide {N} k parts row read =
    (ends : Ends N) × HasEnds k parts row read ends × ¬ AreNarrow parts ends.coords

-- by the rule that is chosen: never over the rationals
abbrev pub HasWideBy : NumberChoice → Given → Type 0
HasWideBy Exact read = ⊥
HasWideBy (Grid n) read = ⊥
HasWideBy (RootTwo n) read = HasWide 2 parts_over_two (rows.Root n.value) read
HasWideBy (RootThree n) read = HasWide 3 parts_over_three (rows.Root n.value) read

-- by exact texts over √3 or else over √2
abbrev pub HasWideExact : Bool → Given → Type 0
HasWideExact true read = HasWide 3 parts_over_three rows.Exact read
HasWideExact false read = HasWide 2 parts_over_two rows.Exact read

abbrev pub HasWideWith : Option ℕ → NumberChoice → Given → Type 0
HasWideWith None number read = HasWideBy number read
HasWideWith (Some root) number read = HasWideExact (root == 3) read

-- of a file it's the effective frame with the number that is chosen
abbrev pub HasWideFrame : RepairOptions → FoldFile → Type 0
HasWideFrame options file =
    (frame : FrameInEffect) × IsEffective file.frames options.frame frame
    × HasWideWith (root_of frame.entries) options.number (given.Frame frame)

abbrev pub HasWideCoordinates : RepairOptions → Input → Type 0
HasWideCoordinates options (input.Cp lines) = HasWideBy options.number (given.Lines lines)
HasWideCoordinates options (input.Fold tree) =
    (file : FoldFile) × IsReadFrom tree file × HasWideFrame options file

-- Where the words ask for a repaired drawing, and a vertex of it is said to be too wide to write,
-- all the bytes that were left, or some where that isn't told, spell coordinates over √2 or √3 that
-- aren't narrow.
abbrev pub RefusesNoNarrow : List (List ℕ) → Option (List ℕ) → Status → Type 0
RefusesNoNarrow words left status =
    (options : RepairOptions) (vertex : ℕ) → AreWordsOf words (Repair options)
    → status ≡ Number (TooWide vertex Drawn)
    → (bytes : List ℕ) × AreLeft left bytes
    × (spelled : Input) × AreRead options.from bytes spelled × HasWideCoordinates options spelled
