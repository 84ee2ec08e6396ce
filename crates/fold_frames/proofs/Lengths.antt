-- the lists of an effective frame can be counted
use Rattle.std.proofs.Common.{◌≡◌, ℕ, suc, ◌<◌, ◌^◌, List, [], ◌∷◌, map, length, cond, ap, refl, sym, ◌∙◌, subst, arith, Bool, true, false, Some, None, IfSome, ◌||◌, nat_lt}
use Rattle.std.specs.List.{list_any, position, position_or_len}
use Rattle.std.proofs.lemmas.Bool.{ltb-true}
use Rattle.std.proofs.lemmas.Option.{same_Some}
use Rattle.json_tree.specs.declared.tree.Json.{Json}
use Rattle.json_tree.proofs.Trees.{every_length}
use Rattle.fold_keys.specs.Short.{HasShortList, HasShortLists}
use Rattle.fold_keys.specs.Trees.{tree_of_value, tree_of_all, tree_of_number, tree_of_word, tree_of_id, tree_or_null, tree_of_pair, tree_of_letter, tree_of_order}
use Rattle.fold_keys.specs.declared.value.Value.{Value}
use Rattle.fold_keys.specs.declared.value.Value.TheVariants as values
use Rattle.fold_frames.specs.Counts.{length_of, is_past, is_some_past, place_past}

length-map : {X Y : Type 0} (f : X → Y) (xs : List X) → length (map f xs) ≡ length xs
length-map f [] = refl
length-map f (x ∷ xs) = ap suc (length-map f xs)

short : {X : Type 0} (f : X → Json) (xs : List X) → HasShortLists (tree_of_all f xs)
    → length xs < 2 ^ 32
short f xs lists =
    let bound : length (map f xs) < 2 ^ 32 =
    every_length HasShortList (λ m. Unit {0}) (map f xs) lists in
    omega (arith, bound, length-map f xs)

pub short_list : (value : Value) → HasShortLists (tree_of_value [] value)
    → IfSome (length_of value) (λ length. length < 2 ^ 32)
short_list (values.Words words) lists = short tree_of_word words lists
short_list (values.Numbers texts) lists = short (tree_or_null tree_of_number) texts lists
short_list (values.Coords points) lists = short (tree_of_all tree_of_number) points lists
short_list (values.IdLists ids) lists = short (tree_of_all (tree_or_null tree_of_id)) ids lists
short_list (values.Pairs pairs) lists = short (tree_of_pair tree_of_id) pairs lists
short_list (values.Letters letters) lists = short tree_of_letter letters lists
short_list (values.Orders orders) lists = short tree_of_order orders lists
short_list (values.Exact points) lists = short (tree_of_pair tree_of_word) points lists
short_list (values.Number text) lists = tt
short_list (values.Word word) lists = tt
short_list (values.Truth is) lists = tt
short_list (values.Id id) lists = tt
short_list values.Frames lists = tt
short_list (values.Kept tree) lists = tt

-- ---- a place within a list

position_within : {X : Type 0} (test : X → Bool) (xs : List X) (i : ℕ) → position test xs ≡ Some i
    → i < length xs
position_within test xs i e = at (nat_lt (position_or_len test xs) (length xs)) refl
  where
    at : (b : Bool) → nat_lt (position_or_len test xs) (length xs) ≡ b → i < length xs
    at true h =
        let here : Some (position_or_len test xs) ≡ Some i =
        ap (λ b. cond b (Some (position_or_len test xs)) None) (sym h) ∙ e in
        subst (λ n. n < length xs) (same_Some (position_or_len test xs) i here)
        (ltb-true (position_or_len test xs) (length xs) h)
    at false h =
        let none : None ≡ Some i =
        ap (λ b. cond b (Some (position_or_len test xs)) None) (sym h) ∙ e in cc

below : (place length bound : ℕ) → place < length → length < bound → place < bound
below place length bound a b = omega arith

pub place_fits : (count : ℕ) (value : Value) (place : ℕ) → place_past count value ≡ Some place
    → IfSome (length_of value) (λ length. length < 2 ^ 32) → place < 2 ^ 32
place_fits count (values.IdLists lists) place is short =
    below place (length lists) (2 ^ 32)
    (position_within (list_any (is_some_past count)) lists place is) short
place_fits count (values.Pairs pairs) place is short =
    below place (length pairs) (2 ^ 32)
    (position_within (λ pair. is_past count pair.0 || is_past count pair.1) pairs place is) short
place_fits count (values.Orders orders) place is short =
    below place (length orders) (2 ^ 32)
    (position_within (λ o. is_past count o.first || is_past count o.second) orders place is) short
place_fits count value place is short = cc
