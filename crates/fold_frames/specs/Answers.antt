-- what following parents answers
use Rattle.std.specs.Prelude.{◌≡◌, ◌≤◌, ℕ, List, Result, Ok, Err, length}
use Rattle.fold_keys.specs.declared.value.Entry.{Entry}
use Rattle.fold_keys.specs.declared.value.Frame.{Frame}
use Rattle.fold_frames.specs.Parents.{IsWay, LeavesAt, ReturnsAt}
use Rattle.fold_frames.specs.Effects.{FrameInEffect}
use Rattle.fold_frames.specs.Inherits.{pairs, inherited}
use Rattle.fold_frames.specs.declared.fault.FrameFault.{FrameFault}
use Rattle.fold_frames.specs.declared.fault.FrameFault.TheVariants as faults
use Rattle.fold_frames.specs.declared.frame.Effective.{Effective}

-- frame k has no effective frame, for this cause
abbrev pub HasNone : List Frame → ℕ → FrameFault → Type 0
HasNone frames k (faults.NoFrame frame) = (frame ≡ k) × (length frames ≤ k)
HasNone frames k (faults.ParentRange frame) = LeavesAt frames k frame
HasNone frames k (faults.ParentLoop frame) = ReturnsAt frames k frame
HasNone frames k (faults.Memory e) = ⊥

-- nothing is said where memory was wanting
abbrev pub AnswersNone : List Frame → ℕ → FrameFault → Type 0
AnswersNone frames k (faults.Memory e) = Unit {0}
AnswersNone frames k fault = HasNone frames k fault

abbrev pub AnswersWay : List Frame → ℕ → Result (List ℕ) FrameFault → Type 0
AnswersWay frames k (Ok way) = IsWay frames k way
AnswersWay frames k (Err fault) = AnswersNone frames k fault

-- these are the entries of frame k with all that it inherits
abbrev pub AreInherited : List Frame → ℕ → List Entry → Type 0
AreInherited frames k entries =
    (way : List ℕ) × IsWay frames k way × (pairs entries ≡ inherited frames way)

-- this is frame k with all that it inherits
abbrev pub IsEffective : List Frame → ℕ → FrameInEffect → Type 0
IsEffective frames k f = (f.frame ≡ k) × AreInherited frames k f.entries

-- the frame with what it inherits, or why it has none
abbrev pub AnswersEffective : List Frame → ℕ → Result Effective FrameFault → Type 0
AnswersEffective frames k (Ok f) = IsEffective frames k f
AnswersEffective frames k (Err fault) = AnswersNone frames k fault
