-- the tree of a file: ids and sides in their one spelling, letters as words, number texts and kept
-- trees as they are
use Rattle.std.specs.Prelude.{ℕ, ℤ, Bool, true, false, List, [], ◌∷◌, map, Option, Some, None}
use Rattle.std.specs.Fmt.{decimal, signed_decimal}
use Rattle.fold_base.specs.Letter.{spelling}
use Rattle.fold_base.specs.declared.letter.Letter.{Letter}
use Rattle.json_tree.specs.declared.tree.Json.{Json, Null, Truth, Number, Word}
use Rattle.json_tree.specs.declared.tree.Json.TheViews as trees
use Rattle.json_tree.specs.declared.tree.Member.{Member}
use Rattle.fold_keys.specs.declared.value.Value.{Value}
use Rattle.fold_keys.specs.declared.value.Value.TheVariants as values
use Rattle.fold_keys.specs.declared.value.Entry.{Entry}
use Rattle.fold_keys.specs.declared.value.Frame.{Frame}
use Rattle.fold_keys.specs.declared.value.FoldFile.{FoldFile}
use Rattle.fold_keys.specs.declared.value.FaceOrder.{FaceOrder}

abbrev pub tree_of_number : List ℕ → Json
tree_of_number text = Number text

abbrev pub tree_of_word : List ℕ → Json
tree_of_word text = Word text

abbrev pub tree_of_truth : Bool → Json
tree_of_truth is = Truth is

abbrev pub tree_of_id : ℕ → Json
tree_of_id id = Number (decimal id)

abbrev pub tree_or_null : {T : Type 0} → (T → Json) → Option T → Json
tree_or_null tree_of (Some x) = tree_of x
tree_or_null tree_of None = Null

abbrev pub tree_of_all : {T : Type 0} → (T → Json) → List T → Json
tree_of_all tree_of xs = trees.List (map tree_of xs)

abbrev pub tree_of_pair : {T : Type 0} → (T → Json) → T × T → Json
tree_of_pair tree_of pair = trees.List (tree_of pair.0 ∷ tree_of pair.1 ∷ [])

abbrev pub tree_of_letter : Letter → Json
tree_of_letter letter = Word (spelling letter ∷ [])

abbrev pub tree_of_side : ℤ → Json
tree_of_side side = Number (signed_decimal side)

abbrev pub tree_of_order : FaceOrder → Json
tree_of_order o = trees.List (tree_of_id o.first ∷ tree_of_id o.second ∷ tree_of_side o.side ∷ [])

-- the tree of a value, where the trees of the other frames are these
abbrev pub tree_of_value : List Json → Value → Json
tree_of_value others (values.Number text) = Number text
tree_of_value others (values.Word word) = Word word
tree_of_value others (values.Truth is) = Truth is
tree_of_value others (values.Id id) = tree_of_id id
tree_of_value others (values.Words words) = tree_of_all tree_of_word words
tree_of_value others values.Frames = trees.List others
tree_of_value others (values.Numbers texts) = tree_of_all (tree_or_null tree_of_number) texts
tree_of_value others (values.Coords points) = tree_of_all (tree_of_all tree_of_number) points
tree_of_value others (values.IdLists lists) =
    tree_of_all (tree_of_all (tree_or_null tree_of_id)) lists
tree_of_value others (values.Pairs pairs) = tree_of_all (tree_of_pair tree_of_id) pairs
tree_of_value others (values.Letters letters) = tree_of_all tree_of_letter letters
tree_of_value others (values.Orders orders) = tree_of_all tree_of_order orders
tree_of_value others (values.Exact points) = tree_of_all (tree_of_pair tree_of_word) points
tree_of_value others (values.Kept tree) = tree

-- the value is the place of the other frames
abbrev pub is_place : Value → Bool
is_place values.Frames = true
is_place value = false

abbrev pub member_of : List Json → Entry → Member
member_of others entry = record { key = entry.key; value = tree_of_value others entry.value }

abbrev pub tree_of_frame : List Json → Frame → Json
tree_of_frame others frame = trees.Object (map (member_of others) frame.entries)

abbrev pub tree_of_frames : List Frame → Json
tree_of_frames [] = Null
tree_of_frames (first ∷ others) = tree_of_frame (map (tree_of_frame []) others) first

abbrev pub tree_of_file : FoldFile → Json
tree_of_file file = tree_of_frames file.frames
