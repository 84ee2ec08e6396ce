-- what `fold` makes of what it read: the folded form of a frame
use Rattle.std.specs.Prelude.{ℕ}
use Rattle.crease_input.specs.Roots.{root_of}
use Rattle.fold_frames.specs.Answers.{IsEffective}
use Rattle.fold_frames.specs.Effects.{FrameInEffect}
use Rattle.fold_keys.specs.declared.value.FoldFile.{FoldFile}
use Rattle.json_tree.specs.declared.tree.Json.{Json}
use Rattle.fold_commands.specs.FoldedFrames.{FoldsWith, orders_of}
use Rattle.fold_commands.specs.Frames.{HasCounts, HasMisfit, HasNoFrame, HasUnevenLists, IsReadFrom}
use Rattle.fold_commands.specs.Steps.{Never, Outcome, Then}
use Rattle.fold_commands.specs.declared.aim.Aim.TheVariants.{Form}
use Rattle.fold_commands.specs.declared.input.Input.{Input}
use Rattle.fold_commands.specs.declared.input.Input.TheVariants as input
use Rattle.fold_commands.specs.declared.number_option.NumberChoice.{NumberChoice}
use Rattle.fold_commands.specs.declared.words.FoldOptions.{FoldOptions}

-- an effective frame is refused where its lists don't agree, or else its folded form is written, with
-- the orders of its faces
abbrev pub FoldsFrame : NumberChoice → FrameInEffect → Outcome
FoldsFrame number frame =
    Then (HasUnevenLists frame) (HasCounts frame)
    (λ counts. FoldsWith Form (orders_of frame.entries) (root_of frame.entries) number frame)

-- the frame with this number, if there is one
abbrev pub FoldsFile : FoldOptions → FoldFile → Outcome
FoldsFile options file =
    Then (HasNoFrame file options.frame) (IsEffective file.frames options.frame)
    (FoldsFrame options.number)

-- a tree is refused at its first misfit
abbrev pub FoldsTree : FoldOptions → Json → Outcome
FoldsTree options tree = Then (HasMisfit tree) (IsReadFrom tree) (FoldsFile options)

-- lines have no faces, and aren't folded
abbrev pub Folds : FoldOptions → Input → Outcome
Folds options (input.Fold tree) = FoldsTree options tree
Folds options (input.Cp lines) = Never
