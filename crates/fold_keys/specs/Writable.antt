-- which files have a tree that reads back
use Rattle.std.specs.Prelude.{◌≡◌, List, [], ◌∷◌, map, Bool, true, false, Option, Some, None, Contains, codes}
use Rattle.std.specs.List.{AllByRecursion}
use Rattle.json_tree.specs.Tree.{IsProper, IsProperWithin, AreDistinct}
use Rattle.json_tree.specs.declared.tree.Json.{Json, out-Json}
use Rattle.fold_keys.specs.Shape.{misfit_of_value, kind_by}
use Rattle.fold_keys.specs.Short.{HasShortLists, HasShortSpec, HasShortNumber}
use Rattle.fold_keys.specs.Trees.{tree_of_value, tree_of_file}
use Rattle.fold_keys.specs.declared.kind.Kind.{Kind}
use Rattle.fold_keys.specs.declared.kind.Kind.TheVariants as kinds
use Rattle.fold_keys.specs.declared.value.Value.{Value}
use Rattle.fold_keys.specs.declared.value.Value.TheVariants as values
use Rattle.fold_keys.specs.declared.value.Entry.{Entry}
use Rattle.fold_keys.specs.declared.value.Frame.{Frame}
use Rattle.fold_keys.specs.declared.value.FoldFile.{FoldFile}

-- the value is of the variant of this kind; a key that isn't read has a kept tree
abbrev pub IsOfKind : Option Kind → Value → Type 0
IsOfKind (Some kinds.Spec) (values.Number text) = Unit {0}
IsOfKind (Some kinds.Word) (values.Word word) = Unit {0}
IsOfKind (Some kinds.Words) (values.Words words) = Unit {0}
IsOfKind (Some kinds.Frames) values.Frames = Unit {0}
IsOfKind (Some kinds.Id) (values.Id id) = Unit {0}
IsOfKind (Some kinds.Truth) (values.Truth is) = Unit {0}
IsOfKind (Some kinds.Coords) (values.Coords points) = Unit {0}
IsOfKind (Some kinds.Exact) (values.Exact points) = Unit {0}
IsOfKind (Some (kinds.IdLists named)) (values.IdLists lists) = Unit {0}
IsOfKind (Some kinds.FaceLists) (values.IdLists lists) = Unit {0}
IsOfKind (Some kinds.Pairs) (values.Pairs pairs) = Unit {0}
IsOfKind (Some kinds.Letters) (values.Letters letters) = Unit {0}
IsOfKind (Some kinds.Numbers) (values.Numbers texts) = Unit {0}
IsOfKind (Some kinds.Orders) (values.Orders orders) = Unit {0}
IsOfKind None (values.Kept tree) = Unit {0}
IsOfKind kind value = ⊥

abbrev pub HasNoMisfit : Option Kind → Json → Type 0
HasNoMisfit (Some kind) tree = misfit_of_value kind tree ≡ None
HasNoMisfit None tree = Unit {0}

-- the value fits the key, in the first frame or in another
pub record Fits (first : Bool) (entry : Entry) : Type 0 where
  pub of_kind : IsOfKind (kind_by first entry.key) entry.value
  pub no_misfit : HasNoMisfit (kind_by first entry.key) (tree_of_value [] entry.value)

abbrev pub FitsOther : Frame → Type 0
FitsOther frame = AllByRecursion (Fits false) frame.entries

abbrev pub Fit : List Frame → Type 0
Fit [] = ⊥
Fit (first ∷ others) = AllByRecursion (Fits true) first.entries × AllByRecursion FitsOther others

-- other frames stand at `file_frames` of the first
abbrev pub HavePlace : List Frame → Type 0
HavePlace [] = ⊥
HavePlace (first ∷ []) = Unit {0}
HavePlace (first ∷ second ∷ others) =
    Contains (map (λ e. e.key) first.entries) (codes "file_frames")

-- the file has a tree that reads back
pub record IsWritable (file : FoldFile) : Type 0 where
  pub fit : Fit file.frames
  pub place : HavePlace file.frames
  pub proper : IsProper (tree_of_file file)
  pub lists : HasShortLists (tree_of_file file)
  pub version : HasShortSpec (tree_of_file file)

-- ---- entries

-- the value fits the key, in the first frame or in another, and its tree can stand there
pub record IsWritableEntry (first : Bool) (entry : Entry) : Type 0 where
  pub fits : Fits first entry
  pub proper : IsProperWithin 63 (tree_of_value [] entry.value)
  pub lists : HasShortLists (tree_of_value [] entry.value)
  pub version : kind_by first entry.key ≡ Some kinds.Spec
      → HasShortNumber (out-Json (tree_of_value [] entry.value))

-- the entries of a frame, the first or another
pub record AreWritable (first : Bool) (entries : List Entry) : Type 0 where
  pub distinct : AreDistinct (map (λ e. e.key) entries)
  pub each : AllByRecursion (IsWritableEntry first) entries

-- the entries of all frames
abbrev pub HaveWritable : List Frame → Type 0
HaveWritable [] = ⊥
HaveWritable (first ∷ others) =
    AreWritable true first.entries × AllByRecursion (λ frame. AreWritable false frame.entries) others

-- the file with these entries and no other frame
abbrev pub file_of : List Entry → FoldFile
file_of entries = record { frames = record { entries = entries } ∷ [] }
