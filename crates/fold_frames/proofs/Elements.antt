-- what a tree without misfit at a key is the tree of
use Rattle.std.proofs.Common.{◌≡◌, ◌⊎◌, inl, inr, ℕ, suc, ℤ, pos, negsuc, List, [], ◌∷◌, map, length, refl, sym, ◌∙◌, ap, Bool, true, false, Option, Some, None, ◌==◌, arith}
use Rattle.std.specs.Prelude.{codes, is_some, ◌&&◌, ◌||◌, if◌then◌else◌, option_map}
use Rattle.std.specs.Fmt.{signed_decimal}
use Rattle.std.specs.List.{list_all, list_any}
use Rattle.std.specs.Str.{bytes_eq}
use Rattle.std.proofs.lemmas.Bool.{and_parts, or_cases, eqb-true}
use Rattle.std.proofs.lemmas.Slice.Eq.{bytes_eq-Decides}
use Rattle.fold_base.specs.Letter.{spelling}
use Rattle.fold_base.specs.declared.letter.Letter.{Letter}
use Rattle.fold_base.specs.declared.letter.Letter.TheVariants.{Border, Mountain, Valley, Flat, Unassigned, Cut, Join}
use Rattle.json_tree.specs.declared.tree.Json.{Json, Json-F, out-Json, roll-Json, roll-out-Json, Null, Number, Word}
use Rattle.json_tree.specs.declared.tree.Json.TheOpen as layers
use Rattle.json_tree.specs.declared.tree.Json.TheViews as trees
use Rattle.json_tree.specs.declared.tree.Member.{Member}
use Rattle.fold_keys.specs.Along.{first_along, or_else}
use Rattle.fold_keys.specs.Elements.{is_number, is_number_layer, is_word, is_word_layer, is_truth, is_truth_layer, is_id, id_in_layer, id_in_text, or_null, is_null_layer, is_letter, is_side, misfit_of_plain, misfit_of_members, misfit_of_inner, misfit_of_all, misfit_of_pair, misfit_of_coords, misfit_of_letter, misfit_of_letter_layer, misfit_of_order, misfit_of_order_layer, misfit_of_order_members, misfit_of_side_layer}
use Rattle.fold_keys.specs.Found.{misfit_at_kind, IsFound}
use Rattle.fold_keys.specs.Reading.{Misfit, misfit_at}
use Rattle.fold_keys.specs.Shape.{of_one, of_list, of_list_layer, of_spec, of_spec_layer}
use Rattle.fold_keys.specs.Trees.{tree_of_number, tree_of_word, tree_of_truth, tree_of_id, tree_or_null, tree_of_all, tree_of_pair, tree_of_letter, tree_of_side, tree_of_order}
use Rattle.fold_keys.specs.declared.fault.ShapeKind.{ShapeKind}
use Rattle.fold_keys.specs.declared.fault.ShapeKind.TheVariants as causes
use Rattle.fold_keys.specs.declared.kind.Kind.{Kind}
use Rattle.fold_keys.specs.declared.kind.Kind.TheVariants as kinds
use Rattle.fold_keys.specs.declared.reading.Found.{Found}
use Rattle.fold_keys.specs.declared.reading.Found.TheVariants as found
use Rattle.fold_keys.specs.declared.value.Value.TheVariants as values
use Rattle.fold_keys.proofs.IdTexts.{id_spelled}
use Rattle.fold_keys.proofs.Sides.{side_one, side_minus_one, side_zero}

-- the tree is that of something
abbrev Has : {X : Type 0} → (X → Json) → Json → Type 0
Has {X} tree_of tree = (x : X) × (tree_of x ≡ tree)

-- so are all of these
abbrev HaveAll : {X : Type 0} → (X → Json) → List Json → Type 0
HaveAll {X} tree_of items = (xs : List X) × (map tree_of xs ≡ items)

rolled : (tree : Json) (layer : Json-F Json Member) → out-Json tree ≡ layer → roll-Json layer ≡ tree
rolled tree layer e = ap roll-Json (sym e) ∙ roll-out-Json tree

-- ---- members

number_has : (tree : Json) → is_number tree ≡ true → Has tree_of_number tree
number_has tree h = at (out-Json tree) refl h
  where
    at : (layer : Json-F Json Member) → out-Json tree ≡ layer → is_number_layer layer ≡ true
        → Has tree_of_number tree
    at (layers.Number text) e h = (text, sym (trees.rolls-Number text) ∙ rolled tree (layers.Number text) e)
    at (layers.Word text) e h = cc
    at (layers.Truth is) e h = cc
    at layers.Null e h = cc
    at (layers.List items) e h = cc
    at (layers.Object ms) e h = cc

word_has : (tree : Json) → is_word tree ≡ true → Has tree_of_word tree
word_has tree h = at (out-Json tree) refl h
  where
    at : (layer : Json-F Json Member) → out-Json tree ≡ layer → is_word_layer layer ≡ true
        → Has tree_of_word tree
    at (layers.Word text) e h = (text, sym (trees.rolls-Word text) ∙ rolled tree (layers.Word text) e)
    at (layers.Number text) e h = cc
    at (layers.Truth is) e h = cc
    at layers.Null e h = cc
    at (layers.List items) e h = cc
    at (layers.Object ms) e h = cc

truth_has : (tree : Json) → is_truth tree ≡ true → Has tree_of_truth tree
truth_has tree h = at (out-Json tree) refl h
  where
    at : (layer : Json-F Json Member) → out-Json tree ≡ layer → is_truth_layer layer ≡ true
        → Has tree_of_truth tree
    at (layers.Truth is) e h = (is, sym (trees.rolls-Truth is) ∙ rolled tree (layers.Truth is) e)
    at (layers.Word text) e h = cc
    at (layers.Number text) e h = cc
    at layers.Null e h = cc
    at (layers.List items) e h = cc
    at (layers.Object ms) e h = cc

id_has : (tree : Json) → is_id tree ≡ true → Has tree_of_id tree
id_has tree h = at (out-Json tree) refl h
  where
    of_text : (text : List ℕ) → out-Json tree ≡ layers.Number text → (o : Option ℕ)
        → id_in_text text ≡ o → is_some o ≡ true → Has tree_of_id tree
    of_text text e None i h = cc
    of_text text e (Some n) i h = (
      n,
      ap Number (id_spelled text n i) ∙ sym (trees.rolls-Number text) ∙ rolled tree (layers.Number text) e,
    )

    at : (layer : Json-F Json Member) → out-Json tree ≡ layer → is_some (id_in_layer layer) ≡ true
        → Has tree_of_id tree
    at (layers.Number text) e h = of_text text e (id_in_text text) refl h
    at (layers.Word text) e h = cc
    at (layers.Truth is) e h = cc
    at layers.Null e h = cc
    at (layers.List items) e h = cc
    at (layers.Object ms) e h = cc

null_is : (tree : Json) → is_null_layer (out-Json tree) ≡ true → Null ≡ tree
null_is tree h = at (out-Json tree) refl h
  where
    at : (layer : Json-F Json Member) → out-Json tree ≡ layer → is_null_layer layer ≡ true
        → Null ≡ tree
    at layers.Null e h = sym trees.rolls-Null ∙ rolled tree layers.Null e
    at (layers.Truth is) e h = cc
    at (layers.Word text) e h = cc
    at (layers.Number text) e h = cc
    at (layers.List items) e h = cc
    at (layers.Object ms) e h = cc

module _ {X : Type 0} (tree_of : X → Json) (passes : Json → Bool)
    (has : (tree : Json) → passes tree ≡ true → Has tree_of tree) where
  or_null_has : (tree : Json) → or_null passes tree ≡ true → Has (tree_or_null tree_of) tree
  or_null_has tree h = elim (or_cases (is_null_layer (out-Json tree)) (passes tree) h) [
    | inl null ↦ (None, null_is tree null)
    | inr there ↦ let x = has tree there in (Some x.0, x.1)
  ]

  members_have : (items : List Json) → list_all passes items ≡ true → HaveAll tree_of items
  members_have [] h = ([], refl)
  members_have (t ∷ items) h =
      let parts = and_parts (passes t) (list_all passes items) h in
      let here = has t parts.0 in
      let rest = members_have items parts.1 in
      (here.0 ∷ rest.0, (λ i. here.1 i ∷ rest.1 i))

-- ---- elements

if_none : {B : Type 0} (b : Bool) (x : B) → (if b then None else Some x) ≡ None → b ≡ true
if_none true x e = refl
if_none false x e = cc

-- a list, of a length that is allowed, of members that pass
record IsInner (allowed : ℕ → Bool) (passes : Json → Bool) (tree : Json) : Type 0 where
  members : List Json
  is : trees.List members ≡ tree
  allows : allowed (length members) ≡ true
  pass : list_all passes members ≡ true

inner_is : (allowed : ℕ → Bool) (passes : Json → Bool) (tree : Json)
    → misfit_of_inner allowed passes (out-Json tree) ≡ None → IsInner allowed passes tree
inner_is allowed passes tree h = at (out-Json tree) refl h
  where
    inside : (members : List Json) → out-Json tree ≡ layers.List members → (b : Bool)
        → allowed (length members) ≡ b
        → (if b then misfit_of_members passes members else Some causes.Length) ≡ None
        → IsInner allowed passes tree
    inside members e true a h = record {
      members = members;
      is = sym (trees.rolls-List members) ∙ rolled tree (layers.List members) e;
      allows = a;
      pass = if_none (list_all passes members) causes.NotKind h;
    }
    inside members e false a h = cc

    at : (layer : Json-F Json Member) → out-Json tree ≡ layer
        → misfit_of_inner allowed passes layer ≡ None → IsInner allowed passes tree
    at (layers.List members) e h = inside members e (allowed (length members)) refl h
    at layers.Null e h = cc
    at (layers.Truth is) e h = cc
    at (layers.Word text) e h = cc
    at (layers.Number text) e h = cc
    at (layers.Object ms) e h = cc

module _ {X : Type 0} (tree_of : X → Json) (misfit : Json → Option ShapeKind)
    (has : (tree : Json) → misfit tree ≡ None → Has tree_of tree) where
  none_first : {B : Type 0} (a b : Option B) → or_else a b ≡ None → (a ≡ None) × (b ≡ None)
  none_first None b h = (refl, h)
  none_first (Some x) b h = cc

  none_at : (place : ℕ) (tree : Json) → misfit_at misfit place tree ≡ None → misfit tree ≡ None
  none_at place tree h = at (misfit tree) h
    where
      at : (o : Option ShapeKind)
          → option_map {U = Misfit} (λ cause. record { index = place; cause = cause }) o ≡ None
          → o ≡ None
      at None h = refl
      at (Some cause) h = cc

  items_have : (from : ℕ) (items : List Json) → first_along (misfit_at misfit) from items ≡ None
      → HaveAll tree_of items
  items_have from [] h = ([], refl)
  items_have from (t ∷ items) h =
      let parts = none_first (misfit_at misfit from t) (first_along (misfit_at misfit) (suc from) items) h in
      let here = has t (none_at from t parts.0) in
      let rest = items_have (suc from) items parts.1 in
      (here.0 ∷ rest.0, (λ i. here.1 i ∷ rest.1 i))

  list_has : (tree : Json) → of_list misfit tree ≡ None → Has (tree_of_all tree_of) tree
  list_has tree h = at (out-Json tree) refl h
    where
      at : (layer : Json-F Json Member) → out-Json tree ≡ layer → of_list_layer misfit layer ≡ None
          → Has (tree_of_all tree_of) tree
      at (layers.List items) e h =
          let all = items_have 0 items h in (
            all.0,
            ap trees.List all.1 ∙ sym (trees.rolls-List items) ∙ rolled tree (layers.List items) e,
          )
      at layers.Null e h = cc
      at (layers.Truth is) e h = cc
      at (layers.Word text) e h = cc
      at (layers.Number text) e h = cc
      at (layers.Object ms) e h = cc

module _ {X : Type 0} (tree_of : X → Json) (passes : Json → Bool)
    (has : (tree : Json) → passes tree ≡ true → Has tree_of tree) where
  plain_has : (tree : Json) → misfit_of_plain passes tree ≡ None → Has tree_of tree
  plain_has tree h = has tree (if_none (passes tree) causes.NotKind h)

  inner_has : (allowed : ℕ → Bool) (tree : Json) → misfit_of_inner allowed passes (out-Json tree) ≡ None
      → Has (tree_of_all tree_of) tree
  inner_has allowed tree h =
      let inner = inner_is allowed passes tree h in
      let all = members_have tree_of passes has inner.members inner.pass in
      (all.0, ap trees.List all.1 ∙ inner.is)

  pair_has : (tree : Json) → misfit_of_pair passes tree ≡ None → Has (tree_of_pair tree_of) tree
  pair_has tree h =
      let inner = inner_is (λ n. n == 2) passes tree h in
      at inner.members inner.allows inner.pass inner.is
    where
      at : (members : List Json) → (length members == 2) ≡ true → list_all passes members ≡ true
          → trees.List members ≡ tree → Has (tree_of_pair tree_of) tree
      at [] n pass is = cc
      at (a ∷ []) n pass is = cc
      at (a ∷ b ∷ []) n pass is =
          let first = and_parts (passes a) (list_all passes (b ∷ [])) pass in
          let second = and_parts (passes b) (list_all passes []) first.1 in
          let x = has a first.0 in
          let y = has b second.0 in
          ((x.0, y.0), (λ i. trees.List (x.1 i ∷ y.1 i ∷ [])) ∙ is)
      at (a ∷ b ∷ d ∷ ms) n pass is = absurd (longer n)
        where
          longer : (length (a ∷ b ∷ d ∷ ms) == 2) ≡ true → ⊥
          longer e = let same = eqb-true (length (a ∷ b ∷ d ∷ ms)) 2 e in omega (arith, same)

-- ---- letters and sides

letter_among : (word : List ℕ) (ls : List Letter)
    → list_any (λ byte. bytes_eq word (byte ∷ [])) (map spelling ls) ≡ true
    → (letter : Letter) × (spelling letter ∷ [] ≡ word)
letter_among word [] h = cc
letter_among word (l ∷ ls) h =
    at (letter_among word ls)
    (or_cases (bytes_eq word (spelling l ∷ [])) (list_any (λ byte. bytes_eq word (byte ∷ [])) (map spelling ls)) h)
  where
    at : (list_any (λ byte. bytes_eq word (byte ∷ [])) (map spelling ls) ≡ true
        → (letter : Letter) × (spelling letter ∷ [] ≡ word))
        → ((bytes_eq word (spelling l ∷ []) ≡ true)
        ⊎ (list_any (λ byte. bytes_eq word (byte ∷ [])) (map spelling ls) ≡ true))
        → (letter : Letter) × (spelling letter ∷ [] ≡ word)
    at rest (inl here) = (l, sym ((bytes_eq-Decides word (spelling l ∷ [])).0 here))
    at rest (inr later) = rest later

letter_has : (tree : Json) → misfit_of_letter tree ≡ None → Has tree_of_letter tree
letter_has tree h = at (out-Json tree) refl h
  where
    at : (layer : Json-F Json Member) → out-Json tree ≡ layer → misfit_of_letter_layer layer ≡ None
        → Has tree_of_letter tree
    at (layers.Word word) e h =
        let found = letter_among word
        (Border ∷ Mountain ∷ Valley ∷ Flat ∷ Unassigned ∷ Cut ∷ Join ∷ [])
        (if_none (is_letter word) causes.Letter h) in
        (found.0, ap Word found.1 ∙ sym (trees.rolls-Word word) ∙ rolled tree (layers.Word word) e)
    at layers.Null e h = cc
    at (layers.Truth is) e h = cc
    at (layers.Number text) e h = cc
    at (layers.List items) e h = cc
    at (layers.Object ms) e h = cc

side_of : (text : List ℕ) → is_side text ≡ true → (z : ℤ) × (signed_decimal z ≡ text)
side_of text h =
    elim (or_cases (bytes_eq text (codes "1")) (bytes_eq text (codes "-1") || bytes_eq text (codes "0")) h) [
      | inl one ↦ (pos 1, (side_one text one).0)
      | inr other ↦ elim (or_cases (bytes_eq text (codes "-1")) (bytes_eq text (codes "0")) other) [
        | inl minus ↦ (negsuc 0, (side_minus_one text minus).0)
        | inr zero ↦ (pos 0, (side_zero text zero).0)
      ]
    ]

side_has : (tree : Json) → misfit_of_side_layer (out-Json tree) ≡ None → Has tree_of_side tree
side_has tree h = at (out-Json tree) refl h
  where
    at : (layer : Json-F Json Member) → out-Json tree ≡ layer → misfit_of_side_layer layer ≡ None
        → Has tree_of_side tree
    at (layers.Number text) e h =
        let side = side_of text (if_none (is_side text) causes.Side h) in
        (side.0, ap Number side.1 ∙ sym (trees.rolls-Number text) ∙ rolled tree (layers.Number text) e)
    at layers.Null e h = cc
    at (layers.Truth is) e h = cc
    at (layers.Word text) e h = cc
    at (layers.List items) e h = cc
    at (layers.Object ms) e h = cc

order_has : (tree : Json) → misfit_of_order tree ≡ None → Has tree_of_order tree
order_has tree h = at (out-Json tree) refl h
  where
    three : (a b s : Json) → trees.List (a ∷ b ∷ s ∷ []) ≡ tree → (both : Bool)
        → (is_id a && is_id b) ≡ both
        → (if both then misfit_of_side_layer (out-Json s) else Some causes.NotKind) ≡ None
        → Has tree_of_order tree
    three a b s is false ids h = cc
    three a b s is true ids h =
        let parts = and_parts (is_id a) (is_id b) ids in
        let x = id_has a parts.0 in
        let y = id_has b parts.1 in
        let z = side_has s h in (
          record { first = x.0; second = y.0; side = z.0 },
          (λ i. trees.List (x.1 i ∷ y.1 i ∷ z.1 i ∷ [])) ∙ is,
        )

    of_members : (members : List Json) → trees.List members ≡ tree
        → misfit_of_order_members members ≡ None → Has tree_of_order tree
    of_members (a ∷ b ∷ s ∷ []) is h = three a b s is (is_id a && is_id b) refl h
    of_members [] is h = cc
    of_members (a ∷ []) is h = cc
    of_members (a ∷ b ∷ []) is h = cc
    of_members (a ∷ b ∷ s ∷ d ∷ ms) is h = cc

    at : (layer : Json-F Json Member) → out-Json tree ≡ layer → misfit_of_order_layer layer ≡ None
        → Has tree_of_order tree
    at (layers.List members) e h =
        of_members members (sym (trees.rolls-List members) ∙ rolled tree (layers.List members) e) h
    at layers.Null e h = cc
    at (layers.Truth is) e h = cc
    at (layers.Word text) e h = cc
    at (layers.Number text) e h = cc
    at (layers.Object ms) e h = cc

-- ---- a value

one_has : {X : Type 0} (tree_of : X → Json) (passes : Json → Bool)
    → ((tree : Json) → passes tree ≡ true → Has tree_of tree) → (tree : Json)
    → of_one passes tree ≡ None → Has tree_of tree
one_has tree_of passes has tree h =
    has tree (if_none (passes tree) (record { index = 0; cause = causes.NotKind }) h)

spec_has : (tree : Json) → of_spec tree ≡ None → Has tree_of_number tree
spec_has tree h = at (out-Json tree) refl h
  where
    at : (layer : Json-F Json Member) → out-Json tree ≡ layer → of_spec_layer layer ≡ None
        → Has tree_of_number tree
    at (layers.Number text) e h = (text, sym (trees.rolls-Number text) ∙ rolled tree (layers.Number text) e)
    at layers.Null e h = cc
    at (layers.Truth is) e h = cc
    at (layers.Word text) e h = cc
    at (layers.List items) e h = cc
    at (layers.Object ms) e h = cc

trees_has : (tree : Json) → of_list (λ item. None) tree ≡ None → Has trees.List tree
trees_has tree h = at (out-Json tree) refl h
  where
    at : (layer : Json-F Json Member) → out-Json tree ≡ layer → of_list_layer (λ item. None) layer ≡ None
        → Has trees.List tree
    at (layers.List items) e h = (items, sym (trees.rolls-List items) ∙ rolled tree (layers.List items) e)
    at layers.Null e h = cc
    at (layers.Truth is) e h = cc
    at (layers.Word text) e h = cc
    at (layers.Number text) e h = cc
    at (layers.Object ms) e h = cc

-- what stands at a key, where it has no misfit
pub found_at : (kind : Option Kind) (tree : Json) → misfit_at_kind kind tree ≡ None
    → (what : Found) × IsFound kind tree what
found_at None tree h = (found.Value (values.Kept tree), ((λ others. refl), tt, no_kind))
  where
    no_kind : ¬ (None ≡ Some kinds.Frames)
    no_kind e = cc
found_at (Some kinds.Spec) tree h = let x = spec_has tree h in
    (found.Value (values.Number x.0), ((λ others. x.1), tt, (λ e. cc)))
found_at (Some kinds.Word) tree h = let x = one_has tree_of_word is_word word_has tree h in
    (found.Value (values.Word x.0), ((λ others. x.1), tt, (λ e. cc)))
found_at (Some kinds.Words) tree h =
    let x = list_has tree_of_word (misfit_of_plain is_word) (plain_has tree_of_word is_word word_has) tree h in
    (found.Value (values.Words x.0), ((λ others. x.1), tt, (λ e. cc)))
found_at (Some kinds.Frames) tree h = let x = trees_has tree h in (found.Frames x.0, (x.1, refl))
found_at (Some kinds.Id) tree h = let x = one_has tree_of_id is_id id_has tree h in
    (found.Value (values.Id x.0), ((λ others. x.1), tt, (λ e. cc)))
found_at (Some kinds.Truth) tree h = let x = one_has tree_of_truth is_truth truth_has tree h in
    (found.Value (values.Truth x.0), ((λ others. x.1), tt, (λ e. cc)))
found_at (Some kinds.Coords) tree h =
    let x = list_has (tree_of_all tree_of_number) misfit_of_coords
    (inner_has tree_of_number is_number number_has (λ n. n == 2 || n == 3)) tree h in
    (found.Value (values.Coords x.0), ((λ others. x.1), tt, (λ e. cc)))
found_at (Some kinds.Exact) tree h =
    let x = list_has (tree_of_pair tree_of_word) (misfit_of_pair is_word)
    (pair_has tree_of_word is_word word_has) tree h in
    (found.Value (values.Exact x.0), ((λ others. x.1), tt, (λ e. cc)))
found_at (Some (kinds.IdLists named)) tree h =
    let x = list_has (tree_of_all (tree_or_null tree_of_id)) (misfit_of_all is_id)
    (inner_has (tree_or_null tree_of_id) is_id present_has (λ n. true)) tree h in
    (found.Value (values.IdLists x.0), ((λ others. x.1), tt, (λ e. cc)))
  where
    present_has : (tree : Json) → is_id tree ≡ true → Has (tree_or_null tree_of_id) tree
    present_has tree h = let x = id_has tree h in (Some x.0, x.1)
found_at (Some kinds.FaceLists) tree h =
    let x = list_has (tree_of_all (tree_or_null tree_of_id)) (misfit_of_all (or_null is_id))
    (inner_has (tree_or_null tree_of_id) (or_null is_id) (or_null_has tree_of_id is_id id_has) (λ n. true)) tree h in
    (found.Value (values.IdLists x.0), ((λ others. x.1), tt, (λ e. cc)))
found_at (Some kinds.Pairs) tree h =
    let x = list_has (tree_of_pair tree_of_id) (misfit_of_pair is_id) (pair_has tree_of_id is_id id_has) tree h in
    (found.Value (values.Pairs x.0), ((λ others. x.1), tt, (λ e. cc)))
found_at (Some kinds.Letters) tree h =
    let x = list_has tree_of_letter misfit_of_letter letter_has tree h in
    (found.Value (values.Letters x.0), ((λ others. x.1), tt, (λ e. cc)))
found_at (Some kinds.Numbers) tree h =
    let x = list_has (tree_or_null tree_of_number) (misfit_of_plain (or_null is_number))
    (plain_has (tree_or_null tree_of_number) (or_null is_number) (or_null_has tree_of_number is_number number_has)) tree h in
    (found.Value (values.Numbers x.0), ((λ others. x.1), tt, (λ e. cc)))
found_at (Some kinds.Orders) tree h =
    let x = list_has tree_of_order misfit_of_order order_has tree h in
    (found.Value (values.Orders x.0), ((λ others. x.1), tt, (λ e. cc)))
