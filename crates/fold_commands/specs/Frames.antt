-- a file and one of its frames, as commands read them
use Rattle.std.specs.Prelude.{◌≡◌, ◌≤◌, ℕ, Some, None}
use Rattle.fold_base.specs.declared.outside.TheConstants.{MOST_BYTES}
use Rattle.json_tree.specs.Tree.{HasLengthsUpTo}
use Rattle.json_tree.specs.declared.tree.Json.{Json}
use Rattle.fold_frames.specs.Answers.{HasNone}
use Rattle.fold_frames.specs.Counts.{counts_of, misfit_in_effect}
use Rattle.fold_frames.specs.Effects.{FrameInEffect}
use Rattle.fold_frames.specs.declared.counts.Counts.{Counts}
use Rattle.fold_frames.specs.declared.fault.FrameFault.{FrameFault}
use Rattle.fold_keys.specs.Shape.{misfit_of_file}
use Rattle.fold_keys.specs.Trees.{tree_of_file}
use Rattle.fold_keys.specs.Writable.{IsWritable}
use Rattle.fold_keys.specs.declared.fault.ShapeFault.{ShapeFault}
use Rattle.fold_keys.specs.declared.value.FoldFile.{FoldFile}
use Rattle.fold_commands.specs.Status.{of_frame}
use Rattle.fold_commands.specs.declared.status.Status.{Status}
use Rattle.fold_commands.specs.declared.status.Status.TheVariants.{Shape}
use Rattle.fold_commands.specs.declared.status.ShapeCause.TheVariants.{Key}

-- nothing in the tree is longer than a text may be
abbrev pub HasShortTexts : Json → Type 0
HasShortTexts tree = (most : ℕ) × (most ≤ MOST_BYTES) × HasLengthsUpTo most tree

-- the tree isn't of FOLD's shape, and the status names its first misfit
abbrev pub HasMisfit : Json → Status → Type 0
HasMisfit tree status =
    (fault : ShapeFault) × (misfit_of_file tree ≡ Some fault) × (status ≡ Shape (Key fault))

-- the tree is of FOLD's shape, and it is the tree of the file that is read from it
abbrev pub IsFileTree : Json → Json → Type 0
IsFileTree tree of_file = (of_file ≡ tree) × (misfit_of_file tree ≡ None)

-- this is the file that was read from the tree
abbrev pub IsReadFrom : Json → FoldFile → Type 0
IsReadFrom tree file = IsFileTree tree (tree_of_file file) × IsWritable file

-- the frame has no effective frame, and the status names why
abbrev pub HasNoFrame : FoldFile → ℕ → Status → Type 0
HasNoFrame file frame status =
    (fault : FrameFault) × HasNone file.frames frame fault × (status ≡ of_frame fault)

-- the lists of the effective frame don't agree, and the status names where
abbrev pub HasUnevenLists : FrameInEffect → Status → Type 0
HasUnevenLists frame status =
    (fault : ShapeFault) × (misfit_in_effect frame ≡ Some fault) × (status ≡ Shape (Key fault))

-- they agree, and so many there are
abbrev pub HasCounts : FrameInEffect → Counts → Type 0
HasCounts frame counts = (counts ≡ counts_of frame.entries) × (misfit_in_effect frame ≡ None)
