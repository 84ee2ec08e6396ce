-- a value that fits its key is the only one with its tree
use Rattle.std.proofs.Common.{◌≡◌, ℕ, ℤ, suc, List, [], ◌∷◌, length, map, refl, sym, ◌∙◌, ap, subst, Bool, true, false, Option, Some, None, ◌==◌}
use Rattle.std.specs.Prelude.{◌&&◌, ◌||◌, if◌then◌else◌, codes, is_some, option_map}
use Rattle.std.specs.Fmt.{decimal, signed_decimal}
use Rattle.std.specs.List.{list_all}
use Rattle.std.specs.Str.{bytes_eq}
use Rattle.fold_base.specs.Letter.{spelling}
use Rattle.fold_base.specs.declared.letter.Letter.{Letter}
use Rattle.fold_base.specs.declared.letter.Letter.TheVariants.{Border, Mountain, Valley, Flat, Unassigned, Cut, Join}
use Rattle.json_tree.specs.declared.tree.Json.{Json, Json-F, out-Json, Truth, Number, Word}
use Rattle.json_tree.specs.declared.tree.Json.TheOpen as layers
use Rattle.json_tree.specs.declared.tree.Json.TheViews as trees
use Rattle.json_tree.specs.declared.tree.Member.{Member}
use Rattle.fold_keys.specs.Along.{first_along, or_else}
use Rattle.fold_keys.specs.Elements.{is_number, is_word, is_id, is_null_layer, id_in_layer, or_null, is_side, misfit_of_plain, misfit_of_members, misfit_of_inner, misfit_of_all, misfit_of_pair, misfit_of_coords, misfit_of_letter, misfit_of_side_layer, misfit_of_order_layer, misfit_of_order_members, misfit_of_order}
use Rattle.fold_keys.specs.Reading.{Misfit, misfit_at}
use Rattle.fold_keys.specs.Shape.{whole, of_list, misfit_of_value}
use Rattle.fold_keys.specs.Trees.{tree_of_number, tree_of_word, tree_of_truth, tree_of_id, tree_or_null, tree_of_all, tree_of_pair, tree_of_letter, tree_of_side, tree_of_order, tree_of_value}
use Rattle.fold_keys.specs.Writable.{IsOfKind, HasNoMisfit}
use Rattle.fold_keys.specs.declared.fault.ShapeKind.{ShapeKind}
use Rattle.fold_keys.specs.declared.fault.ShapeKind.TheVariants as causes
use Rattle.fold_keys.specs.declared.kind.Kind.{Kind}
use Rattle.fold_keys.specs.declared.kind.Kind.TheVariants as kinds
use Rattle.fold_keys.specs.declared.value.Value.{Value}
use Rattle.fold_keys.specs.declared.value.Value.TheVariants as values
use Rattle.fold_keys.proofs.Decimals.{one_id, is_one, is_zero, is_minus_one}
use Rattle.fold_keys.proofs.Layers.{of_list-List}

-- ---- trees of one variant

number_layer : (layer : Json-F Json Member) (a b : List ℕ) → layer ≡ layers.Number a
    → layer ≡ layers.Number b → a ≡ b
number_layer layer a b p q = cc

same_text : (a b : List ℕ) → Number a ≡ Number b → a ≡ b
same_text a b e =
    number_layer (out-Json (Number a)) a b (trees.outs-Number a)
    (ap out-Json e ∙ trees.outs-Number b)

word_layer : (layer : Json-F Json Member) (a b : List ℕ) → layer ≡ layers.Word a
    → layer ≡ layers.Word b → a ≡ b
word_layer layer a b p q = cc

same_word : (a b : List ℕ) → Word a ≡ Word b → a ≡ b
same_word a b e =
    word_layer (out-Json (Word a)) a b (trees.outs-Word a) (ap out-Json e ∙ trees.outs-Word b)

truth_layer : (layer : Json-F Json Member) (a b : Bool) → layer ≡ layers.Truth a
    → layer ≡ layers.Truth b → a ≡ b
truth_layer layer a b p q = cc

same_truth : (a b : Bool) → Truth a ≡ Truth b → a ≡ b
same_truth a b e =
    truth_layer (out-Json (Truth a)) a b (trees.outs-Truth a) (ap out-Json e ∙ trees.outs-Truth b)

list_layer : (layer : Json-F Json Member) (a b : List Json) → layer ≡ layers.List a
    → layer ≡ layers.List b → a ≡ b
list_layer layer a b p q = cc

pub same_items : (a b : List Json) → trees.List a ≡ trees.List b → a ≡ b
same_items a b e =
    list_layer (out-Json (trees.List a)) a b (trees.outs-List a) (ap out-Json e ∙ trees.outs-List b)

object_layer : (layer : Json-F Json Member) (a b : List Member) → layer ≡ layers.Object a
    → layer ≡ layers.Object b → a ≡ b
object_layer layer a b p q = cc

pub same_members : (a b : List Member) → trees.Object a ≡ trees.Object b → a ≡ b
same_members a b e =
    object_layer (out-Json (trees.Object a)) a b (trees.outs-Object a)
    (ap out-Json e ∙ trees.outs-Object b)

head_of : {X : Type 0} (x y : X) (xs ys : List X) → x ∷ xs ≡ y ∷ ys → x ≡ y
head_of x y xs ys e = cc

tail_of : {X : Type 0} (x y : X) (xs ys : List X) → x ∷ xs ≡ y ∷ ys → xs ≡ ys
tail_of x y xs ys e = cc

both : (a b : Bool) → a && b ≡ true → (a ≡ true) × (b ≡ true)
both true b e = (refl, e)
both false b e = cc

passing : (b : Bool) (cause : ShapeKind) → (if b then None else Some cause) ≡ None → b ≡ true
passing true cause e = refl
passing false cause e = cc

-- ---- members: of what passes the test, only one has its tree

abbrev IsOne : {X : Type 0} → (Json → Bool) → (X → Json) → Type 0
IsOne {X} passes tree_of = (x y : X) → passes (tree_of x) ≡ true → tree_of x ≡ tree_of y → x ≡ y

one_number : (passes : Json → Bool) → IsOne passes tree_of_number
one_number passes a b p e = same_text a b e

one_word : (passes : Json → Bool) → IsOne passes tree_of_word
one_word passes a b p e = same_word a b e

one_of_ids : IsOne is_id tree_of_id
one_of_ids a b p e =
    one_id a b (ap (λ layer. is_some (id_in_layer layer)) (sym (trees.outs-Number (decimal a))) ∙ p)
    (same_text (decimal a) (decimal b) e)

no_null : (text : List ℕ) → is_null_layer (out-Json (Number text)) ≡ false
no_null text = ap is_null_layer (trees.outs-Number text)

-- a member or null, where no member's tree is null
one_or_null : {X : Type 0} (passes : Json → Bool) (tree_of : X → Json)
    → ((x : X) → is_null_layer (out-Json (tree_of x)) ≡ false) → IsOne passes tree_of
    → IsOne (or_null passes) (tree_or_null tree_of)
one_or_null passes tree_of some one None None p e = refl
one_or_null passes tree_of some one None (Some y) p e =
    let clash : true ≡ false =
    sym (ap is_null_layer trees.outs-Null) ∙ ap (λ t. is_null_layer (out-Json t)) e ∙ some y in
    cc
one_or_null passes tree_of some one (Some x) None p e =
    let clash : false ≡ true =
    sym (some x) ∙ ap (λ t. is_null_layer (out-Json t)) e ∙ ap is_null_layer trees.outs-Null in
    cc
one_or_null passes tree_of some one (Some x) (Some y) p e =
    ap Some (one x y (ap (λ b. b || passes (tree_of x)) (sym (some x)) ∙ p) e)

-- so is what passes a narrower test
one_within : {X : Type 0} (passes : Json → Bool) (tree_of : X → Json)
    → IsOne (or_null passes) tree_of
    → IsOne passes tree_of
one_within passes tree_of one x y p e =
    one x y (either (is_null_layer (out-Json (tree_of x))) (passes (tree_of x)) p) e
  where
    either : (a b : Bool) → b ≡ true → a || b ≡ true
    either true b e = refl
    either false b e = e

one_list : {X : Type 0} (passes : Json → Bool) (tree_of : X → Json) → IsOne passes tree_of
    → (xs ys : List X) → list_all passes (map tree_of xs) ≡ true → map tree_of xs ≡ map tree_of ys
    → xs ≡ ys
one_list passes tree_of one [] [] p e = refl
one_list passes tree_of one [] (y ∷ ys) p e = cc
one_list passes tree_of one (x ∷ xs) [] p e = cc
one_list passes tree_of one (x ∷ xs) (y ∷ ys) p e =
    let each = both (passes (tree_of x)) (list_all passes (map tree_of xs)) p in
    let first = one x y each.0
    (head_of (tree_of x) (tree_of y) (map tree_of xs) (map tree_of ys) e) in
    let rest = one_list passes tree_of one xs ys each.1
    (tail_of (tree_of x) (tree_of y) (map tree_of xs) (map tree_of ys) e) in
    λ i. first i ∷ rest i

-- ---- elements: of those without a misfit, only one has its tree

abbrev IsOneElement : {X : Type 0} → (Json → Option ShapeKind) → (X → Json) → Type 0
IsOneElement {X} misfit tree_of = (x y : X) → misfit (tree_of x) ≡ None → tree_of x ≡ tree_of y
    → x ≡ y

one_plain : {X : Type 0} (passes : Json → Bool) (tree_of : X → Json) → IsOne passes tree_of
    → IsOneElement (misfit_of_plain passes) tree_of
one_plain passes tree_of one x y m e = one x y (passing (passes (tree_of x)) causes.NotKind m) e

inner_passes : (allowed : ℕ → Bool) (passes : Json → Bool) (items : List Json)
    → misfit_of_inner allowed passes (out-Json (trees.List items)) ≡ None
    → list_all passes items ≡ true
inner_passes allowed passes items m = at (allowed (length items)) refl
  where
    here : misfit_of_inner allowed passes (layers.List items) ≡ None
    here = ap (misfit_of_inner allowed passes) (sym (trees.outs-List items)) ∙ m

    no_length : Some causes.Length ≡ None → list_all passes items ≡ true
    no_length e = cc

    at : (b : Bool) → allowed (length items) ≡ b → list_all passes items ≡ true
    at true e =
        passing (list_all passes items) causes.NotKind
        (ap (λ b. if b then misfit_of_members passes items else Some causes.Length) (sym e) ∙ here)
    at false e =
        let clash : Some causes.Length ≡ None =
        ap (λ b. if b then misfit_of_members passes items else Some causes.Length) (sym e) ∙ here in
        no_length clash

one_inner : {X : Type 0} (allowed : ℕ → Bool) (passes : Json → Bool) (tree_of : X → Json)
    → IsOne passes tree_of
    → IsOneElement (λ t. misfit_of_inner allowed passes (out-Json t)) (tree_of_all tree_of)
one_inner allowed passes tree_of one xs ys m e =
    one_list passes tree_of one xs ys (inner_passes allowed passes (map tree_of xs) m)
    (same_items (map tree_of xs) (map tree_of ys) e)

one_pair : {X : Type 0} (passes : Json → Bool) (tree_of : X → Json) → IsOne passes tree_of
    → IsOneElement (misfit_of_pair passes) (tree_of_pair tree_of)
one_pair {X} passes tree_of one x y m e =
    let xs : List X = x.0 ∷ x.1 ∷ [] in
    let ys : List X = y.0 ∷ y.1 ∷ [] in
    let same = one_list passes tree_of one xs ys
    (inner_passes (λ n. n == 2) passes (map tree_of xs) m)
    (same_items (map tree_of xs) (map tree_of ys) e) in
    let first = head_of x.0 y.0 (x.1 ∷ []) (y.1 ∷ []) same in
    let second = head_of x.1 y.1 [] [] (tail_of x.0 y.0 (x.1 ∷ []) (y.1 ∷ []) same) in
    λ i. (first i, second i)

abbrev letter_at : ℕ → Letter
letter_at b =
    if b == 66 then Border else
    (if b == 77 then Mountain else
    (if b == 86 then Valley else
    (if b == 70 then Flat else
    (if b == 85 then Unassigned else
    (if b == 67 then Cut else Join)))))

letter_back : (letter : Letter) → letter_at (spelling letter) ≡ letter
letter_back Border = refl
letter_back Mountain = refl
letter_back Valley = refl
letter_back Flat = refl
letter_back Unassigned = refl
letter_back Cut = refl
letter_back Join = refl

one_letter : IsOneElement misfit_of_letter tree_of_letter
one_letter x y m e =
    sym (letter_back x) ∙ ap letter_at
    (head_of (spelling x) (spelling y) [] [] (same_word (spelling x ∷ []) (spelling y ∷ []) e))
    ∙ letter_back y

side_passes : (z : ℤ) → misfit_of_side_layer (out-Json (tree_of_side z)) ≡ None
    → is_side (signed_decimal z) ≡ true
side_passes z m =
    passing (is_side (signed_decimal z)) causes.Side
    (ap misfit_of_side_layer (sym (trees.outs-Number (signed_decimal z))) ∙ m)

abbrev IsSide : ℤ → Type 0
IsSide z = (y : ℤ) → signed_decimal z ≡ signed_decimal y → z ≡ y

one_side : (z : ℤ) → is_side (signed_decimal z) ≡ true → IsSide z
one_side z is y e =
    at (bytes_eq (signed_decimal z) (codes "1"))
    (bytes_eq (signed_decimal z) (codes "-1")) refl refl is
  where
    at : (a b : Bool) → bytes_eq (signed_decimal z) (codes "1") ≡ a
        → bytes_eq (signed_decimal z) (codes "-1") ≡ b
        → a || (b || bytes_eq (signed_decimal z) (codes "0")) ≡ true → z ≡ y
    at true b p q is = is_one z p ∙ sym (is_one y (subst (λ t. bytes_eq t (codes "1") ≡ true) e p))
    at false true p q is =
        is_minus_one z q ∙ sym (is_minus_one y (subst (λ t. bytes_eq t (codes "-1") ≡ true) e q))
    at false false p q is =
        is_zero z is ∙ sym (is_zero y (subst (λ t. bytes_eq t (codes "0") ≡ true) e is))

one_order : IsOneElement misfit_of_order tree_of_order
one_order x y m e =
    let fits : misfit_of_order_members
    (tree_of_id x.first ∷ tree_of_id x.second ∷ tree_of_side x.side ∷ []) ≡ None =
    ap misfit_of_order_layer
    (sym (trees.outs-List
    (tree_of_id x.first ∷ tree_of_id x.second ∷ tree_of_side x.side ∷ []))) ∙ m in
    let same = same_items (tree_of_id x.first ∷ tree_of_id x.second ∷ tree_of_side x.side ∷ [])
    (tree_of_id y.first ∷ tree_of_id y.second ∷ tree_of_side y.side ∷ []) e in
    let later = tail_of (tree_of_id x.first) (tree_of_id y.first)
    (tree_of_id x.second ∷ tree_of_side x.side ∷ [])
    (tree_of_id y.second ∷ tree_of_side y.side ∷ []) same in
    let last = tail_of (tree_of_id x.second) (tree_of_id y.second) (tree_of_side x.side ∷ [])
    (tree_of_side y.side ∷ []) later in
    let parts = order_parts (is_id (tree_of_id x.first) && is_id (tree_of_id x.second))
    (misfit_of_side_layer (out-Json (tree_of_side x.side))) fits in
    let ids = both (is_id (tree_of_id x.first)) (is_id (tree_of_id x.second)) parts.0 in
    let first = one_of_ids x.first y.first ids.0 (head_of (tree_of_id x.first) (tree_of_id y.first)
    (tree_of_id x.second ∷ tree_of_side x.side ∷ [])
    (tree_of_id y.second ∷ tree_of_side y.side ∷ []) same) in
    let second =
    one_of_ids x.second y.second ids.1
    (head_of (tree_of_id x.second) (tree_of_id y.second) (tree_of_side x.side ∷ [])
    (tree_of_side y.side ∷ []) later) in
    let side = one_side x.side (side_passes x.side parts.1) y.side
    (same_text (signed_decimal x.side) (signed_decimal y.side)
    (head_of (tree_of_side x.side) (tree_of_side y.side) [] [] last)) in
    λ i. record { first = first i; second = second i; side = side i }
  where
    order_parts : (b : Bool) (o : Option ShapeKind) → (if b then o else Some causes.NotKind) ≡ None
        → (b ≡ true) × (o ≡ None)
    order_parts true o e = (refl, e)
    order_parts false o e = cc

-- ---- lists of elements

two_none : {B : Type 0} (a b : Option B) → or_else a b ≡ None → (a ≡ None) × (b ≡ None)
two_none None b e = (refl, e)
two_none (Some x) b e = cc

no_map : {A B : Type 0} (f : A → B) (o : Option A) → option_map f o ≡ None → o ≡ None
no_map f None e = refl
no_map f (Some x) e = cc

one_along : {X : Type 0} (misfit : Json → Option ShapeKind) (tree_of : X → Json)
    → IsOneElement misfit tree_of
    → (from : ℕ) (xs ys : List X) → first_along (misfit_at misfit) from (map tree_of xs) ≡ None
    → map tree_of xs ≡ map tree_of ys → xs ≡ ys
one_along misfit tree_of one from [] [] m e = refl
one_along misfit tree_of one from [] (y ∷ ys) m e = cc
one_along misfit tree_of one from (x ∷ xs) [] m e = cc
one_along misfit tree_of one from (x ∷ xs) (y ∷ ys) m e =
    let none = two_none (misfit_at misfit from (tree_of x))
    (first_along (misfit_at misfit) (suc from) (map tree_of xs)) m in
    let first = one x y
    (no_map (λ cause. record { index = from; cause = cause }) (misfit (tree_of x)) none.0)
    (head_of (tree_of x) (tree_of y) (map tree_of xs) (map tree_of ys) e) in
    let rest = one_along misfit tree_of one (suc from) xs ys none.1
    (tail_of (tree_of x) (tree_of y) (map tree_of xs) (map tree_of ys) e) in
    λ i. first i ∷ rest i

-- ---- values: of those of a kind without a misfit, only one has its tree

abbrev IsOneValue : {X : Type 0} → (Json → Option Misfit) → (X → Json) → Type 0
IsOneValue {X} misfit tree_of = (x y : X) → misfit (tree_of x) ≡ None → tree_of x ≡ tree_of y
    → x ≡ y

one_of_list : {X : Type 0} (misfit : Json → Option ShapeKind) (tree_of : X → Json)
    → IsOneElement misfit tree_of → IsOneValue (of_list misfit) (tree_of_all tree_of)
one_of_list misfit tree_of one xs ys m e =
    one_along misfit tree_of one 0 xs ys (sym (of_list-List misfit (map tree_of xs)) ∙ m)
    (same_items (map tree_of xs) (map tree_of ys) e)

-- what is of a kind's variant holds that variant's data
abbrev Holds : {X : Type 0} → (X → Value) → Value → Type 0
Holds {X} f v = (x : X) × (v ≡ f x)

number_in : (v : Value) → IsOfKind (Some kinds.Spec) v → Holds values.Number v
number_in (values.Number x) h = (x, refl)
number_in v h = absurd h

word_in : (v : Value) → IsOfKind (Some kinds.Word) v → Holds values.Word v
word_in (values.Word x) h = (x, refl)
word_in v h = absurd h

words_in : (v : Value) → IsOfKind (Some kinds.Words) v → Holds values.Words v
words_in (values.Words x) h = (x, refl)
words_in v h = absurd h

pub place_in : (v : Value) → IsOfKind (Some kinds.Frames) v → v ≡ values.Frames
place_in values.Frames h = refl
place_in v h = absurd h

id_in_value : (v : Value) → IsOfKind (Some kinds.Id) v → Holds values.Id v
id_in_value (values.Id x) h = (x, refl)
id_in_value v h = absurd h

truth_in : (v : Value) → IsOfKind (Some kinds.Truth) v → Holds values.Truth v
truth_in (values.Truth x) h = (x, refl)
truth_in v h = absurd h

coords_in : (v : Value) → IsOfKind (Some kinds.Coords) v → Holds values.Coords v
coords_in (values.Coords x) h = (x, refl)
coords_in v h = absurd h

exact_in : (v : Value) → IsOfKind (Some kinds.Exact) v → Holds values.Exact v
exact_in (values.Exact x) h = (x, refl)
exact_in v h = absurd h

face_lists_in : (v : Value) → IsOfKind (Some kinds.FaceLists) v → Holds values.IdLists v
face_lists_in (values.IdLists x) h = (x, refl)
face_lists_in v h = absurd h

pairs_in : (v : Value) → IsOfKind (Some kinds.Pairs) v → Holds values.Pairs v
pairs_in (values.Pairs x) h = (x, refl)
pairs_in v h = absurd h

letters_in : (v : Value) → IsOfKind (Some kinds.Letters) v → Holds values.Letters v
letters_in (values.Letters x) h = (x, refl)
letters_in v h = absurd h

numbers_in : (v : Value) → IsOfKind (Some kinds.Numbers) v → Holds values.Numbers v
numbers_in (values.Numbers x) h = (x, refl)
numbers_in v h = absurd h

orders_in : (v : Value) → IsOfKind (Some kinds.Orders) v → Holds values.Orders v
orders_in (values.Orders x) h = (x, refl)
orders_in v h = absurd h

kept_in : (v : Value) → IsOfKind None v → Holds values.Kept v
kept_in (values.Kept x) h = (x, refl)
kept_in v h = absurd h

one_by : {X : Type 0} (f : X → Value) (tree_of : X → Json) (misfit : Json → Option Misfit)
    → IsOneValue misfit tree_of
    → ((others : List Json) (x : X) → tree_of_value others (f x) ≡ tree_of x)
    → (here there : List Json) (v w : Value) → Holds f v → Holds f w
    → misfit (tree_of_value [] v) ≡ None → tree_of_value here v ≡ tree_of_value there w → v ≡ w
one_by f tree_of misfit one is here there v w a b m e =
    let fits = ap misfit (sym (is [] a.0)) ∙ ap (λ u. misfit (tree_of_value [] u)) (sym a.1) ∙ m in
    let same = sym (is here a.0) ∙ ap (tree_of_value here) (sym a.1) ∙ e
    ∙ ap (tree_of_value there) b.1
    ∙ is there b.0 in
    a.1 ∙ ap f (one a.0 b.0 fits same) ∙ sym b.1

one_passing : (passes : Bool) → (if passes then None else whole causes.NotKind) ≡ None
    → passes ≡ true
one_passing true e = refl
one_passing false e = cc

pub one_value : (kind : Option Kind) (here there : List Json) (v w : Value) → IsOfKind kind v
    → IsOfKind kind w
    → HasNoMisfit kind (tree_of_value [] v) → tree_of_value here v ≡ tree_of_value there w → v ≡ w
one_value None here there v w hv hw m e =
    one_by values.Kept (λ t. t) (λ t. None) (λ x y m e. e) (λ others x. refl) here there v w
    (kept_in v hv) (kept_in w hw) refl e
one_value (Some kinds.Spec) here there v w hv hw m e =
    one_by values.Number tree_of_number (misfit_of_value kinds.Spec) (λ x y m e. same_text x y e)
    (λ others x. refl) here there v w (number_in v hv) (number_in w hw) m e
one_value (Some kinds.Word) here there v w hv hw m e =
    one_by values.Word tree_of_word (misfit_of_value kinds.Word) (λ x y m e. same_word x y e)
    (λ others x. refl) here there v w (word_in v hv) (word_in w hw) m e
one_value (Some kinds.Words) here there v w hv hw m e =
    one_by values.Words (tree_of_all tree_of_word) (misfit_of_value kinds.Words)
    (one_of_list (misfit_of_plain is_word) tree_of_word
    (one_plain is_word tree_of_word (one_word is_word)))
    (λ others x. refl) here there v w (words_in v hv) (words_in w hw) m e
one_value (Some kinds.Frames) here there v w hv hw m e = place_in v hv ∙ sym (place_in w hw)
one_value (Some kinds.Id) here there v w hv hw m e =
    one_by values.Id tree_of_id (misfit_of_value kinds.Id)
    (λ x y m e. one_of_ids x y (one_passing (is_id (tree_of_id x)) m) e)
    (λ others x. refl) here there v w (id_in_value v hv) (id_in_value w hw) m e
one_value (Some kinds.Truth) here there v w hv hw m e =
    one_by values.Truth tree_of_truth (misfit_of_value kinds.Truth) (λ x y m e. same_truth x y e)
    (λ others x. refl) here there v w (truth_in v hv) (truth_in w hw) m e
one_value (Some kinds.Coords) here there v w hv hw m e =
    one_by values.Coords (tree_of_all (tree_of_all tree_of_number)) (misfit_of_value kinds.Coords)
    (one_of_list misfit_of_coords (tree_of_all tree_of_number)
    (one_inner (λ n. n == 2 || n == 3) is_number tree_of_number (one_number is_number)))
    (λ others x. refl) here there v w (coords_in v hv) (coords_in w hw) m e
one_value (Some kinds.Exact) here there v w hv hw m e =
    one_by values.Exact (tree_of_all (tree_of_pair tree_of_word)) (misfit_of_value kinds.Exact)
    (one_of_list (misfit_of_pair is_word) (tree_of_pair tree_of_word)
    (one_pair is_word tree_of_word (one_word is_word)))
    (λ others x. refl) here there v w (exact_in v hv) (exact_in w hw) m e
one_value (Some (kinds.IdLists named)) here there v w hv hw m e =
    one_by values.IdLists (tree_of_all (tree_of_all (tree_or_null tree_of_id)))
    (misfit_of_value (kinds.IdLists named))
    (one_of_list (misfit_of_all is_id) (tree_of_all (tree_or_null tree_of_id))
    (one_inner (λ n. true) is_id (tree_or_null tree_of_id)
    (one_within is_id (tree_or_null tree_of_id)
    (one_or_null is_id tree_of_id (λ id. no_null (decimal id)) one_of_ids))))
    (λ others x. refl) here there v w (id_lists_in v hv) (id_lists_in w hw) m e
  where
    id_lists_in : (u : Value) → IsOfKind (Some (kinds.IdLists named)) u → Holds values.IdLists u
    id_lists_in (values.IdLists x) h = (x, refl)
    id_lists_in u h = absurd h
one_value (Some kinds.FaceLists) here there v w hv hw m e =
    one_by values.IdLists (tree_of_all (tree_of_all (tree_or_null tree_of_id)))
    (misfit_of_value kinds.FaceLists)
    (one_of_list (misfit_of_all (or_null is_id)) (tree_of_all (tree_or_null tree_of_id))
    (one_inner (λ n. true) (or_null is_id) (tree_or_null tree_of_id)
    (one_or_null is_id tree_of_id (λ id. no_null (decimal id)) one_of_ids)))
    (λ others x. refl) here there v w (face_lists_in v hv) (face_lists_in w hw) m e
one_value (Some kinds.Pairs) here there v w hv hw m e =
    one_by values.Pairs (tree_of_all (tree_of_pair tree_of_id)) (misfit_of_value kinds.Pairs)
    (one_of_list (misfit_of_pair is_id) (tree_of_pair tree_of_id)
    (one_pair is_id tree_of_id one_of_ids))
    (λ others x. refl) here there v w (pairs_in v hv) (pairs_in w hw) m e
one_value (Some kinds.Letters) here there v w hv hw m e =
    one_by values.Letters (tree_of_all tree_of_letter) (misfit_of_value kinds.Letters)
    (one_of_list misfit_of_letter tree_of_letter one_letter)
    (λ others x. refl) here there v w (letters_in v hv) (letters_in w hw) m e
one_value (Some kinds.Numbers) here there v w hv hw m e =
    one_by values.Numbers (tree_of_all (tree_or_null tree_of_number))
    (misfit_of_value kinds.Numbers)
    (one_of_list (misfit_of_plain (or_null is_number)) (tree_or_null tree_of_number)
    (one_plain (or_null is_number) (tree_or_null tree_of_number)
    (one_or_null is_number tree_of_number no_null (one_number is_number))))
    (λ others x. refl) here there v w (numbers_in v hv) (numbers_in w hw) m e
one_value (Some kinds.Orders) here there v w hv hw m e =
    one_by values.Orders (tree_of_all tree_of_order) (misfit_of_value kinds.Orders)
    (one_of_list misfit_of_order tree_of_order one_order)
    (λ others x. refl) here there v w (orders_in v hv) (orders_in w hw) m e
