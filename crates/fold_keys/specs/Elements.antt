-- what an element of each kind of list is, as a test on a tree that names the cause where it fails
use Rattle.std.specs.Prelude.{ℕ, ◌==◌, ◌||◌, ◌&&◌, ◌^◌, nat_lt, List, [], ◌∷◌, length, Bool, true, false, Option, Some, None, is_some, if◌then◌else◌, codes}
use Rattle.std.specs.Fmt.{decimal}
use Rattle.std.specs.List.{list_all, list_any}
use Rattle.std.specs.Str.{bytes_eq}
use Rattle.std.specs.Str.Parse.{digits_value}
use Rattle.json_tree.specs.declared.tree.Json.{Json, Json-F, out-Json}
use Rattle.json_tree.specs.declared.tree.Json.TheOpen as layers
use Rattle.json_tree.specs.declared.tree.Member.{Member}
use Rattle.fold_keys.specs.declared.fault.ShapeKind.{ShapeKind}
use Rattle.fold_keys.specs.declared.fault.ShapeKind.TheVariants.{NotKind, Length, Letter, Side}

-- the tree is a number
abbrev pub is_number_layer : Json-F Json Member → Bool
is_number_layer (layers.Number text) = true
is_number_layer layer = false

abbrev pub is_word_layer : Json-F Json Member → Bool
is_word_layer (layers.Word text) = true
is_word_layer layer = false

abbrev pub is_word : Json → Bool
is_word tree = is_word_layer (out-Json tree)

abbrev pub is_number : Json → Bool
is_number tree = is_number_layer (out-Json tree)

abbrev pub is_truth_layer : Json-F Json Member → Bool
is_truth_layer (layers.Truth is) = true
is_truth_layer layer = false

abbrev pub is_truth : Json → Bool
is_truth tree = is_truth_layer (out-Json tree)

-- the id that the text spells: a number below 2^32, in digits and in one way
abbrev pub id_in_text : List ℕ → Option ℕ
id_in_text text = let n = digits_value 10 text in
    if bytes_eq text (decimal n) && nat_lt n (2 ^ 32) then Some n else None

abbrev pub id_in_layer : Json-F Json Member → Option ℕ
id_in_layer (layers.Number text) = id_in_text text
id_in_layer layer = None

abbrev pub id_in : Json → Option ℕ
id_in tree = id_in_layer (out-Json tree)

abbrev pub is_id : Json → Bool
is_id tree = is_some (id_in tree)

-- the cause why the tree is no list of a length that is allowed, of members that pass the test
abbrev pub misfit_of_members : (Json → Bool) → List Json → Option ShapeKind
misfit_of_members passes members = if list_all passes members then None else Some NotKind

abbrev pub misfit_of_inner : (ℕ → Bool) → (Json → Bool) → Json-F Json Member → Option ShapeKind
misfit_of_inner allowed passes (layers.List members) =
    if allowed (length members) then misfit_of_members passes members else Some Length
misfit_of_inner allowed passes layer = Some NotKind

-- null, or what passes
abbrev pub is_null_layer : Json-F Json Member → Bool
is_null_layer layers.Null = true
is_null_layer layer = false

abbrev pub or_null : (Json → Bool) → Json → Bool
or_null passes tree = is_null_layer (out-Json tree) || passes tree

-- ---- the kinds

-- an element without parts
abbrev pub misfit_of_plain : (Json → Bool) → Json → Option ShapeKind
misfit_of_plain passes tree = if passes tree then None else Some NotKind

-- members that pass the test, in any number
abbrev pub misfit_of_all : (Json → Bool) → Json → Option ShapeKind
misfit_of_all passes tree = misfit_of_inner (λ n. true) passes (out-Json tree)

-- two members that pass the test
abbrev pub misfit_of_pair : (Json → Bool) → Json → Option ShapeKind
misfit_of_pair passes tree = misfit_of_inner (λ n. n == 2) passes (out-Json tree)

-- coordinates: 2 or 3 numbers
abbrev pub misfit_of_coords : Json → Option ShapeKind
misfit_of_coords tree = misfit_of_inner (λ n. n == 2 || n == 3) is_number (out-Json tree)

-- a letter
abbrev pub is_letter : List ℕ → Bool
is_letter word = list_any (λ letter. bytes_eq word (letter ∷ [])) (codes "BMVFUCJ")

abbrev pub misfit_of_letter_layer : Json-F Json Member → Option ShapeKind
misfit_of_letter_layer (layers.Word word) = if is_letter word then None else Some Letter
misfit_of_letter_layer layer = Some NotKind

abbrev pub misfit_of_letter : Json → Option ShapeKind
misfit_of_letter tree = misfit_of_letter_layer (out-Json tree)

-- an order of two faces: 2 ids and a side
abbrev pub is_side : List ℕ → Bool
is_side text =
    bytes_eq text (codes "1") || (bytes_eq text (codes "-1") || bytes_eq text (codes "0"))

abbrev pub misfit_of_side_layer : Json-F Json Member → Option ShapeKind
misfit_of_side_layer (layers.Number text) = if is_side text then None else Some Side
misfit_of_side_layer layer = Some NotKind

abbrev pub misfit_of_order_members : List Json → Option ShapeKind
misfit_of_order_members (first ∷ second ∷ side ∷ []) =
    if is_id first && is_id second then misfit_of_side_layer (out-Json side) else Some NotKind
misfit_of_order_members members = Some Length

abbrev pub misfit_of_order_layer : Json-F Json Member → Option ShapeKind
misfit_of_order_layer (layers.List members) = misfit_of_order_members members
misfit_of_order_layer layer = Some NotKind

abbrev pub misfit_of_order : Json → Option ShapeKind
misfit_of_order tree = misfit_of_order_layer (out-Json tree)
