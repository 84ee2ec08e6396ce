-- what the readers of entries and of frames answer
use Rattle.std.specs.Prelude.{◌≡◌, ◌==◌, ℕ, List, [], ◌∷◌, map, Option, Some, None, Result, Ok, Err, if◌then◌else◌}
use Rattle.std.specs.List.{AllByRecursion}
use Rattle.json_tree.specs.Tree.{keys, AreDistinct}
use Rattle.json_tree.specs.declared.tree.Json.{Json, Json-F, out-Json}
use Rattle.json_tree.specs.declared.tree.Json.TheOpen as layers
use Rattle.json_tree.specs.declared.tree.Member.{Member}
use Rattle.fold_keys.specs.Along.{first_along}
use Rattle.fold_keys.specs.Found.{IsFound}
use Rattle.fold_keys.specs.Short.{HasShortList, HasShortNumber}
use Rattle.fold_keys.specs.Shape.{kind_at, others_among, others_of_layer, misfit_of_member, misfit_of_members, misfit_of_frame, misfit_of_file}
use Rattle.fold_keys.specs.Trees.{member_of, tree_of_frame, tree_of_file}
use Rattle.fold_keys.specs.Writable.{Fits, FitsOther, IsWritable}
use Rattle.fold_keys.specs.declared.fault.FoldFault.{FoldFault}
use Rattle.fold_keys.specs.declared.fault.FoldFault.TheVariants as faults
use Rattle.fold_keys.specs.declared.fault.ShapeKind.TheVariants as causes
use Rattle.fold_keys.specs.declared.kind.Kind.TheVariants as kinds
use Rattle.fold_keys.specs.declared.reading.Found.TheVariants as found
use Rattle.fold_keys.specs.declared.value.Entry.{Entry}
use Rattle.fold_keys.specs.declared.value.Frame.{Frame}
use Rattle.fold_keys.specs.declared.value.FoldFile.{FoldFile}
use Rattle.fold_keys.specs.declared.value.Value.TheVariants as values

-- the entry is what stands at the member's key, or the place of the other frames, whose trees these
-- are
abbrev pub IsEntryOf : ℕ → Member → Entry → Option (List Json) → Type 0
IsEntryOf frame member entry None =
    (entry.key ≡ member.key)
    × IsFound (kind_at frame member.key) member.value (found.Value entry.value)
IsEntryOf frame member entry (Some items) =
    (entry.key ≡ member.key) × (entry.value ≡ values.Frames)
    × IsFound (kind_at frame member.key) member.value (found.Frames items)

abbrev pub AnswersEntry : ℕ → Member → Result (Entry × Option (List Json)) FoldFault → Type 0
AnswersEntry frame member (Ok read) =
    IsEntryOf frame member read.0 read.1 × (misfit_of_member frame member ≡ None)
AnswersEntry frame member (Err (faults.Shape fault)) = misfit_of_member frame member ≡ Some fault
AnswersEntry frame member (Err (faults.Memory e)) = Unit {0}

-- the entries have these members, whatever the other frames are, or with these
abbrev pub HaveMembers : List Entry → Option (List Json) → List Member → Type 0
HaveMembers entries None members = (others : List Json) → map (member_of others) entries ≡ members
HaveMembers entries (Some others) members = map (member_of others) entries ≡ members

-- the trees of the other frames, where the first frame has a list of them
abbrev pub others_in : ℕ → List Member → Option (List Json)
others_in frame members = if frame == 0 then others_among members else None

pub record AreEntriesOf (frame : ℕ) (members : List Member) (entries : List Entry)
    (others : Option (List Json)) : Type 0 where
  pub have : HaveMembers entries others members
  pub fit : AllByRecursion (Fits (frame == 0)) entries
  pub aside : others ≡ others_in frame members

abbrev pub AnswersEntries : ℕ → List Member → Result (List Entry × Option (List Json)) FoldFault
    → Type 0
AnswersEntries frame members (Ok read) =
    AreEntriesOf frame members read.0 read.1 × (misfit_of_members frame members ≡ None)
AnswersEntries frame members (Err (faults.Shape fault)) =
    misfit_of_members frame members ≡ Some fault
AnswersEntries frame members (Err (faults.Memory e)) = Unit {0}

-- the frame has this tree, whatever the other frames are, or with these
abbrev pub HasTree : Frame → Option (List Json) → Json → Type 0
HasTree frame None tree = (others : List Json) → tree_of_frame others frame ≡ tree
HasTree frame (Some others) tree = tree_of_frame others frame ≡ tree

pub record IsFrameOf (number : ℕ) (tree : Json) (frame : Frame)
    (others : Option (List Json)) : Type 0 where
  pub has : HasTree frame others tree
  pub fit : AllByRecursion (Fits (number == 0)) frame.entries
  pub aside : others ≡ (if number == 0 then others_of_layer (out-Json tree) else None)

abbrev pub AnswersFrame : ℕ → Json → Result (Frame × Option (List Json)) FoldFault → Type 0
AnswersFrame number tree (Ok read) =
    IsFrameOf number tree read.0 read.1 × (misfit_of_frame number tree ≡ None)
AnswersFrame number tree (Err (faults.Shape fault)) = misfit_of_frame number tree ≡ Some fault
AnswersFrame number tree (Err (faults.Memory e)) = Unit {0}

-- that a frame is no object, with an empty key
abbrev pub IsNoObject : ℕ → FoldFault → Type 0
IsNoObject number (faults.Shape fault) =
    fault ≡ record { frame = number; key = []; index = 0; cause = causes.NotKind }
IsNoObject number (faults.Memory e) = Unit {0}

-- the frames after the first
pub record AreOthersOf (trees : List Json) (others : List Frame) : Type 0 where
  pub have : map (tree_of_frame []) others ≡ trees
  pub fit : AllByRecursion FitsOther others

abbrev pub AnswersOthers : Frame → List Json → Result (List Frame) FoldFault → Type 0
AnswersOthers first trees (Ok frames) =
    (others : List Frame) × (frames ≡ first ∷ others) × AreOthersOf trees others
    × (first_along misfit_of_frame 1 trees ≡ None)
AnswersOthers first trees (Err (faults.Shape fault)) =
    first_along misfit_of_frame 1 trees ≡ Some fault
AnswersOthers first trees (Err (faults.Memory e)) = Unit {0}

-- the file has the given tree, which has no misfit, or this is the first misfit
abbrev pub AnswersFile : Json → Result FoldFile FoldFault → Type 0
AnswersFile tree (Ok file) =
    (tree_of_file file ≡ tree) × IsWritable file × (misfit_of_file tree ≡ None)
AnswersFile tree (Err (faults.Shape fault)) = misfit_of_file tree ≡ Some fault
AnswersFile tree (Err (faults.Memory e)) = Unit {0}

-- memory was wanting
abbrev pub LacksMemory : Result FoldFile FoldFault → Type 0
LacksMemory (Err (faults.Memory e)) = Unit {0}
LacksMemory (Err (faults.Shape fault)) = ⊥
LacksMemory (Ok file) = ⊥

-- what is asked of a member of a frame, and of the tree of a frame
pub record IsReadableMember (number : ℕ) (member : Member) : Type 0 where
  pub list : HasShortList (out-Json member.value)
  pub version : kind_at number member.key ≡ Some kinds.Spec → HasShortNumber (out-Json member.value)

abbrev pub IsReadableLayer : ℕ → Json-F Json Member → Type 0
IsReadableLayer number (layers.Object members) =
    AreDistinct (keys members) × AllByRecursion (IsReadableMember number) members
IsReadableLayer number layer = Unit {0}

abbrev pub IsReadable : ℕ → Json → Type 0
IsReadable number tree = IsReadableLayer number (out-Json tree)
