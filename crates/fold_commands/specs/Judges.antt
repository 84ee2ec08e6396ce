-- what `judge` makes of what it read: whether a frame folds with its layers as they are ordered
use Rattle.std.specs.Prelude.{◌≡◌, ◌≢◌, ℕ, codes}
use Rattle.crease_input.specs.Roots.{root_of}
use Rattle.fold_frames.specs.Answers.{IsEffective}
use Rattle.fold_frames.specs.Effects.{FrameInEffect}
use Rattle.fold_frames.specs.Parents.{value_at}
use Rattle.fold_keys.specs.declared.value.FoldFile.{FoldFile}
use Rattle.json_tree.specs.declared.tree.Json.{Json}
use Rattle.fold_commands.specs.FoldedFrames.{FoldsWith, orders_of}
use Rattle.fold_commands.specs.Frames.{HasCounts, HasMisfit, HasNoFrame, HasUnevenLists, IsReadFrom}
use Rattle.fold_commands.specs.Steps.{Never, Outcome, Then}
use Rattle.fold_commands.specs.declared.aim.Aim.TheVariants.{Verdict}
use Rattle.fold_commands.specs.declared.input.Input.{Input}
use Rattle.fold_commands.specs.declared.input.Input.TheVariants as input
use Rattle.fold_commands.specs.declared.number_option.NumberChoice.{NumberChoice}
use Rattle.fold_commands.specs.declared.status.ShapeCause.TheVariants.{OrdersDiffer}
use Rattle.fold_commands.specs.declared.status.Status.{Status}
use Rattle.fold_commands.specs.declared.status.Status.TheVariants.{Shape}
use Rattle.fold_commands.specs.declared.words.JudgeOptions.{JudgeOptions}

-- two frames have the same faces, or both have none
abbrev pub HaveSameFaces : FrameInEffect → FrameInEffect → Type 0
HaveSameFaces frame ordered =
    value_at frame.entries (codes "faces_vertices") ≡ value_at ordered.entries (codes "faces_vertices")

-- the frame with the orders has other faces
abbrev pub HaveOtherFaces : FrameInEffect → FrameInEffect → Status → Type 0
HaveOtherFaces frame ordered status =
    (¬ HaveSameFaces frame ordered) × (status ≡ Shape OrdersDiffer)

-- the frame is judged by the orders of another that has the same faces
abbrev pub JudgesOrdered : NumberChoice → FrameInEffect → FrameInEffect → Outcome
JudgesOrdered number frame ordered =
    Then {X = Unit {0}} (HaveOtherFaces frame ordered) (λ same. HaveSameFaces frame ordered)
    (λ same. FoldsWith Verdict (orders_of ordered.entries) (root_of frame.entries) number frame)

-- effective frames are refused where their lists don't agree
abbrev pub JudgesFrames : NumberChoice → FrameInEffect → FrameInEffect → Outcome
JudgesFrames number frame ordered =
    Then (HasUnevenLists frame) (HasCounts frame) (λ counts.
    Then (HasUnevenLists ordered) (HasCounts ordered) (λ others. JudgesOrdered number frame ordered))

-- the frame with this number and the one with the orders, if there are both
abbrev pub JudgesFile : JudgeOptions → FoldFile → Outcome
JudgesFile options file =
    Then (HasNoFrame file options.frame) (IsEffective file.frames options.frame) (λ frame.
    Then (HasNoFrame file options.orders) (IsEffective file.frames options.orders)
    (JudgesFrames options.number frame))

-- a tree is refused at its first misfit
abbrev pub JudgesTree : JudgeOptions → Json → Outcome
JudgesTree options tree = Then (HasMisfit tree) (IsReadFrom tree) (JudgesFile options)

-- lines have no faces, and aren't judged
abbrev pub Judges : JudgeOptions → Input → Outcome
Judges options (input.Fold tree) = JudgesTree options tree
Judges options (input.Cp lines) = Never
