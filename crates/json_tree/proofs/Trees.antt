-- trees by their layers: what the folds give for each kind of value, and what is true throughout a
-- tree
use Rattle.std.proofs.Common.{◌≡◌, ℕ, suc, List, [], ◌∷◌, ◌++◌, map, refl, sym, ◌∙◌, ap, subst, Bool, codes}
use Rattle.std.specs.List.{join_with_byte, AllByRecursion}
use Rattle.json_tree.specs.PrintedForm.{printed_form, printed_layer, printed_pair, printed_member, printed_word}
use Rattle.json_tree.specs.Spells.{truth_word}
use Rattle.json_tree.specs.Tree.{nesting, nesting_of_layer, nesting_of_member, largest}
use Rattle.json_tree.specs.declared.tree.Json.{Json, Json-F, Null, Truth, Number, Word}
use Rattle.json_tree.specs.declared.tree.Json.TheViews as trees
use Rattle.json_tree.specs.declared.tree.Json.TheOpen as layers
use Rattle.json_tree.specs.declared.tree.Member.{Member}
use Rattle.json_tree.specs.declared.tree.Json.TheFolds.{map-Json, every-Json, every-Member, fold-roll-Json, fold-roll-Member, every_here-Json, every_held-Json, every_made-Json, every_here-Member, every_held-Member, every_made-Member}

-- ---- the printed form

pub printed_form-List : (items : List Json) → printed_form (trees.List items) ≡ (91 ∷ []) ++ join_with_byte 44 (map printed_form items) ++ (93 ∷ [])
printed_form-List items = ap printed_form (sym (trees.rolls-List items)) ∙ fold-roll-Json (List ℕ) (List ℕ) printed_layer printed_pair (layers.List items)

pub printed_form-Object : (members : List Member) → printed_form (trees.Object members) ≡ (123 ∷ []) ++ join_with_byte 44 (map printed_member members) ++ (125 ∷ [])
printed_form-Object members = ap printed_form (sym (trees.rolls-Object members)) ∙ fold-roll-Json (List ℕ) (List ℕ) printed_layer printed_pair (layers.Object members)

pub printed_form-Null : printed_form Null ≡ codes "null"
printed_form-Null = ap printed_form (sym trees.rolls-Null) ∙ fold-roll-Json (List ℕ) (List ℕ) printed_layer printed_pair layers.Null

pub printed_form-Truth : (is : Bool) → printed_form (Truth is) ≡ truth_word is
printed_form-Truth is = ap printed_form (sym (trees.rolls-Truth is)) ∙ fold-roll-Json (List ℕ) (List ℕ) printed_layer printed_pair (layers.Truth is)

pub printed_form-Number : (text : List ℕ) → printed_form (Number text) ≡ text
printed_form-Number text = ap printed_form (sym (trees.rolls-Number text)) ∙ fold-roll-Json (List ℕ) (List ℕ) printed_layer printed_pair (layers.Number text)

pub printed_form-Word : (word : List ℕ) → printed_form (Word word) ≡ printed_word word
printed_form-Word word = ap printed_form (sym (trees.rolls-Word word)) ∙ fold-roll-Json (List ℕ) (List ℕ) printed_layer printed_pair (layers.Word word)

pub printed_member-is : (m : Member) → printed_member m ≡ printed_word m.key ++ (58 ∷ []) ++ printed_form m.value
printed_member-is m = fold-roll-Member (List ℕ) (List ℕ) printed_layer printed_pair (trees.out-Member m)

-- ---- nesting

pub nesting-List : (items : List Json) → nesting (trees.List items) ≡ suc (largest (map nesting items))
nesting-List items = ap nesting (sym (trees.rolls-List items)) ∙ fold-roll-Json ℕ ℕ nesting_of_layer (λ m. m.value) (layers.List items)

pub nesting-Object : (members : List Member) → nesting (trees.Object members) ≡ suc (largest (map nesting_of_member members))
nesting-Object members = ap nesting (sym (trees.rolls-Object members)) ∙ fold-roll-Json ℕ ℕ nesting_of_layer (λ m. m.value) (layers.Object members)

pub nesting-Null : nesting Null ≡ 0
nesting-Null = ap nesting (sym trees.rolls-Null) ∙ fold-roll-Json ℕ ℕ nesting_of_layer (λ m. m.value) layers.Null

pub nesting-Truth : (is : Bool) → nesting (Truth is) ≡ 0
nesting-Truth is = ap nesting (sym (trees.rolls-Truth is)) ∙ fold-roll-Json ℕ ℕ nesting_of_layer (λ m. m.value) (layers.Truth is)

pub nesting-Number : (text : List ℕ) → nesting (Number text) ≡ 0
nesting-Number text = ap nesting (sym (trees.rolls-Number text)) ∙ fold-roll-Json ℕ ℕ nesting_of_layer (λ m. m.value) (layers.Number text)

pub nesting-Word : (word : List ℕ) → nesting (Word word) ≡ 0
nesting-Word word = ap nesting (sym (trees.rolls-Word word)) ∙ fold-roll-Json ℕ ℕ nesting_of_layer (λ m. m.value) (layers.Word word)

pub nesting_of_member-is : (m : Member) → nesting_of_member m ≡ nesting m.value
nesting_of_member-is m = fold-roll-Member ℕ ℕ nesting_of_layer (λ m. m.value) (trees.out-Member m)

-- ---- what is true of each layer

facts_of : {X : Type 0} (P : X → Type 0) (ys : List ((x : X) × P x)) → AllByRecursion P (map (λ e. e.0) ys)
facts_of P [] = tt
facts_of P (y ∷ ys) = (y.1, facts_of P ys)

with_facts : {X : Type 0} (P : X → Type 0) (xs : List X) → AllByRecursion P xs → (ys : List ((x : X) × P x)) × (map (λ e. e.0) ys ≡ xs)
with_facts P [] all = ([], refl)
with_facts P (x ∷ xs) all = let rest = with_facts P xs all.1 in ((x, all.0) ∷ rest.0, ap (λ l. x ∷ l) rest.1)

module _ (Q : Json-F Json Member → Type 0) (Q' : layers.Member-F Json Member → Type 0) where
  abbrev Every : Json → Type 0
  Every tree = every-Json Q Q' tree

  abbrev EveryMember : Member → Type 0
  EveryMember m = every-Member Q Q' m

  abbrev Layer : Type 0
  Layer = Json-F ((x : Json) × Every x) ((x : Member) × EveryMember x)

  abbrev bare : Layer → Json-F Json Member
  bare layer = map-Json ((x : Json) × Every x) ((x : Member) × EveryMember x) Json Member (λ e. e.0) (λ e. e.0) layer

  items_of : (items : List Json) (layer : Layer) → bare layer ≡ layers.List items → AllByRecursion Every items
  items_of items (layers.List ys) same = let e : map (λ e. e.0) ys ≡ items = cc in subst (AllByRecursion Every) e (facts_of Every ys)
  items_of items layers.Null same = cc
  items_of items (layers.Truth is) same = cc
  items_of items (layers.Number t) same = cc
  items_of items (layers.Word t) same = cc
  items_of items (layers.Object ms) same = cc

  members_of : (members : List Member) (layer : Layer) → bare layer ≡ layers.Object members → AllByRecursion EveryMember members
  members_of members (layers.Object ys) same = let e : map (λ e. e.0) ys ≡ members = cc in subst (AllByRecursion EveryMember) e (facts_of EveryMember ys)
  members_of members layers.Null same = cc
  members_of members (layers.Truth is) same = cc
  members_of members (layers.Number t) same = cc
  members_of members (layers.Word t) same = cc
  members_of members (layers.List ys) same = cc

  pub every_items : (items : List Json) → Every (trees.List items) → AllByRecursion Every items
  every_items items all = let held = every_held-Json Q Q' (trees.List items) all in items_of items held.0 (held.1 ∙ trees.outs-List items)

  pub every_members : (members : List Member) → Every (trees.Object members) → AllByRecursion EveryMember members
  every_members members all = let held = every_held-Json Q Q' (trees.Object members) all in members_of members held.0 (held.1 ∙ trees.outs-Object members)

  pub every_length : (items : List Json) → Every (trees.List items) → Q (layers.List items)
  every_length items all = subst Q (trees.outs-List items) (every_here-Json Q Q' (trees.List items) all)

  pub every_keys : (members : List Member) → Every (trees.Object members) → Q (layers.Object members)
  every_keys members all = subst Q (trees.outs-Object members) (every_here-Json Q Q' (trees.Object members) all)

  pub every_number : (text : List ℕ) → Every (Number text) → Q (layers.Number text)
  every_number text all = subst Q (trees.outs-Number text) (every_here-Json Q Q' (Number text) all)

  pub every_word : (word : List ℕ) → Every (Word word) → Q (layers.Word word)
  every_word word all = subst Q (trees.outs-Word word) (every_here-Json Q Q' (Word word) all)

  pub every_key : (m : Member) → EveryMember m → Q' (trees.out-Member m)
  every_key m all = every_here-Member Q Q' m all

  pub every_value : (m : Member) → EveryMember m → Every m.value
  every_value m all = let held = every_held-Member Q Q' m all in let e : held.0.value.0 ≡ m.value = ap (λ (x : layers.Member-F Json Member). x.value) held.1 in subst Every e held.0.value.1

  pub every-Null : Q layers.Null → Every Null
  every-Null q = subst Every trees.rolls-Null (every_made-Json Q Q' layers.Null layers.Null refl q)

  pub every-Truth : (is : Bool) → Q (layers.Truth is) → Every (Truth is)
  every-Truth is q = subst Every (trees.rolls-Truth is) (every_made-Json Q Q' (layers.Truth is) (layers.Truth is) refl q)

  pub every-Number : (text : List ℕ) → Q (layers.Number text) → Every (Number text)
  every-Number text q = subst Every (trees.rolls-Number text) (every_made-Json Q Q' (layers.Number text) (layers.Number text) refl q)

  pub every-Word : (word : List ℕ) → Q (layers.Word word) → Every (Word word)
  every-Word word q = subst Every (trees.rolls-Word word) (every_made-Json Q Q' (layers.Word word) (layers.Word word) refl q)

  pub every-List : (items : List Json) → AllByRecursion Every items → Q (layers.List items) → Every (trees.List items)
  every-List items all q =
      let with = with_facts Every items all in
      subst Every (trees.rolls-List items) (every_made-Json Q Q' (layers.List items) (layers.List with.0) (ap layers.List with.1) q)

  pub every-Object : (members : List Member) → AllByRecursion EveryMember members → Q (layers.Object members) → Every (trees.Object members)
  every-Object members all q =
      let with = with_facts EveryMember members all in
      subst Every (trees.rolls-Object members) (every_made-Json Q Q' (layers.Object members) (layers.Object with.0) (ap layers.Object with.1) q)

  pub every_member : (m : Member) → Q' (trees.out-Member m) → Every m.value → EveryMember m
  every_member m q all = every_made-Member Q Q' (trees.out-Member m) (record { key = m.key; value = (m.value, all) }) refl q
