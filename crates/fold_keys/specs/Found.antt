-- what the readers of values, of entries and of frames answer
use Rattle.std.specs.Prelude.{◌≡◌, List, Option, Some, None, option_and_then, Result, Ok, Err}
use Rattle.json_tree.specs.declared.tree.Json.{Json}
use Rattle.json_tree.specs.declared.tree.Json.TheViews as trees
use Rattle.fold_keys.specs.Reading.{Misfit}
use Rattle.fold_keys.specs.Shape.{misfit_of_value}
use Rattle.fold_keys.specs.Trees.{tree_of_value}
use Rattle.fold_keys.specs.Writable.{IsOfKind}
use Rattle.fold_keys.specs.declared.element.ListFault.{ListFault}
use Rattle.fold_keys.specs.declared.element.ListFault.TheVariants as list
use Rattle.fold_keys.specs.declared.kind.Kind.{Kind}
use Rattle.fold_keys.specs.declared.kind.Kind.TheVariants as kinds
use Rattle.fold_keys.specs.declared.reading.Found.{Found}
use Rattle.fold_keys.specs.declared.reading.Found.TheVariants as found

-- it fits and its tree is the given one, or this is its first misfit
abbrev pub AnswersTree : {T : Type 0} → (T → Json) → (Json → Option Misfit) → Json
    → Result T ListFault → Type 0
AnswersTree tree_of misfit tree (Ok x) = (tree_of x ≡ tree) × (misfit tree ≡ None)
AnswersTree tree_of misfit tree (Err (list.Shape index cause)) =
    misfit tree ≡ Some (record { index = index; cause = cause })
AnswersTree tree_of misfit tree (Err (list.Memory e)) = Unit {0}

-- a tree at a key that isn't read has no misfit
abbrev pub misfit_at_kind : Option Kind → Json → Option Misfit
misfit_at_kind kind tree = option_and_then (λ k. misfit_of_value k tree) kind

-- a value, whatever the other frames are, or the trees of the other frames
abbrev pub IsFound : Option Kind → Json → Found → Type 0
IsFound kind tree (found.Value value) =
    ((others : List Json) → tree_of_value others value ≡ tree) × IsOfKind kind value
    × ¬ (kind ≡ Some kinds.Frames)
IsFound kind tree (found.Frames items) = (trees.List items ≡ tree) × (kind ≡ Some kinds.Frames)

abbrev pub AnswersValue : Option Kind → Json → Result Found ListFault → Type 0
AnswersValue kind tree (Ok what) = IsFound kind tree what × (misfit_at_kind kind tree ≡ None)
AnswersValue kind tree (Err (list.Shape index cause)) =
    misfit_at_kind kind tree ≡ Some (record { index = index; cause = cause })
AnswersValue kind tree (Err (list.Memory e)) = Unit {0}
