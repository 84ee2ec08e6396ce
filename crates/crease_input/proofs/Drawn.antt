-- the entries of a drawing's file can be written
use Rattle.std.proofs.Common.{◌≡◌, ℕ, zero, suc, ℤ, pos, negsuc, ◌<◌, ◌≤◌, ◌^◌, ◌≤ℤ◌, List, [], ◌∷◌, ◌++◌, map, length, refl, sym, ◌∙◌, ap, subst, Bool, true, false, Option, Some, None, arith}
use Rattle.std.specs.Prelude.{not, is_some, codes, ◌&&◌, ◌==◌, ◌||◌, if◌then◌else◌, nat_lt, option_map}
use Rattle.std.specs.Fmt.{decimal, signed_decimal}
use Rattle.std.specs.List.{AllByRecursion, AllZip, IsDistinct, list_all}
use Rattle.std.specs.Str.{bytes_eq}
use Rattle.std.specs.Str.Parse.{AllDigits, digits_value}
use Rattle.std.proofs.lemmas.Bool.{lt-ltb}
use Rattle.std.proofs.lemmas.Int.{ints}
use Rattle.std.proofs.lemmas.Option.{same_Some}
use Rattle.std.proofs.lemmas.Fmt.{digits_value-decimal, decimal_digit}
use Rattle.std.proofs.lemmas.List.{length-map}
use Rattle.std.proofs.lemmas.Map.Made.{AllPairs-from_IsDistinct}
use Rattle.std.proofs.lemmas.Slice.Eq.{bytes_eq-Decides}
use Rattle.std.proofs.lemmas.Slice.Zip.{AllZip-long}
use Rattle.algebra.specs.LowestTerms.{Parts}
use Rattle.std.proofs.lemmas.Str.Parse.{numerals_by_value, tells_digits}
use Rattle.fold_base.specs.Letter.{spelling}
use Rattle.fold_base.specs.declared.letter.Letter.{Letter}
use Rattle.fold_base.specs.declared.letter.Letter.TheVariants.{Border, Mountain, Valley, Flat, Unassigned, Cut, Join}
use Rattle.json_tree.specs.Tree.{nesting, largest, IsProperWithin, HasDistinctKeys, AreDistinct}
use Rattle.json_tree.specs.declared.tree.Json.{Json, out-Json, Number, Word}
use Rattle.json_tree.specs.declared.tree.Json.TheOpen as layers
use Rattle.json_tree.specs.declared.tree.Json.TheViews as trees
use Rattle.json_tree.proofs.Trees.{nesting-List, nesting-Number, nesting-Word, every-Number, every-Word, every-List}
use Rattle.fold_keys.specs.Along.{or_else, first_along}
use Rattle.fold_keys.specs.Spec.{is_above_spec}
use Rattle.fold_keys.specs.Elements.{is_side, is_number, is_number_layer, is_word, is_word_layer, is_id, id_in_layer, misfit_of_inner, misfit_of_coords, misfit_of_pair, misfit_of_all, misfit_of_plain, misfit_of_letter, misfit_of_letter_layer, misfit_of_order, misfit_of_order_layer, misfit_of_side_layer}
use Rattle.fold_keys.specs.Reading.{misfit_at}
use Rattle.fold_keys.specs.Shape.{kind_by, misfit_of_value, of_list, of_spec_layer, whole}
use Rattle.fold_keys.specs.Short.{HasShortList, HasShortLists, HasShortNumber}
use Rattle.fold_keys.specs.Trees.{tree_of_value, tree_of_number, tree_of_word, tree_of_id, tree_of_pair, tree_of_all, tree_or_null, tree_of_letter, tree_of_order, tree_of_side}
use Rattle.fold_keys.specs.Writable.{IsOfKind, HasNoMisfit, IsWritableEntry, AreWritable}
use Rattle.fold_keys.specs.declared.value.Entry.{Entry}
use Rattle.number_rules.specs.ExactText.{exact_text_of}
use Rattle.scaled_plane.specs.declared.drawing.Ends.{Ends}
use Rattle.scaled_plane.specs.declared.point.Pair.{Pair}
use Rattle.fold_keys.specs.declared.fault.ShapeKind.{ShapeKind}
use Rattle.fold_keys.specs.declared.fault.ShapeKind.TheVariants as causes
use Rattle.fold_keys.specs.declared.kind.Kind.{Kind}
use Rattle.fold_keys.specs.declared.kind.Kind.TheVariants as kinds
use Rattle.fold_keys.specs.declared.kind.Part.TheVariants.{Vertices}
use Rattle.fold_keys.specs.declared.value.FaceOrder.{FaceOrder}
use Rattle.fold_keys.specs.declared.value.Value.{Value}
use Rattle.fold_keys.specs.declared.value.Value.TheVariants as values
use Rattle.fold_keys.proofs.Layers.{of_list-List}
use Rattle.scaled_plane.specs.declared.drawing.Edge.{Edge}
use Rattle.scaled_plane.specs.declared.drawing.Face.{Face}
use Rattle.crease_input.specs.Lines.{IsEdgeWithin}
use Rattle.crease_input.specs.Files.{entry, head_entries, coords_entry, edge_entries, face_entries, order_entries, face_count, HasCornersWithin, AreFacesWithin, IsOrderWithin, AreOrdersWithin, IsFileable, AreNineTexts, AreVertexEntries, vertex_entries, exact_entries}

-- ---- trees that nest so deep at most, with short lists

record IsFine (levels : ℕ) (tree : Json) : Type 0 where
  proper : IsProperWithin levels tree
  lists : HasShortLists tree

bounds_largest : {X : Type 0} (f : X → ℕ) (xs : List X) (n : ℕ) → AllByRecursion (λ x. f x ≤ n) xs
    → largest (map f xs) ≤ n
bounds_largest f [] n h = omega arith
bounds_largest f (x ∷ xs) n h =
    let rest = bounds_largest f xs n h.1 in
    let here = h.0 in omega (arith, rest, here)

all_to : {X : Type 0} (P Q : X → Type 0) (xs : List X) → ((x : X) → P x → Q x) → AllByRecursion P xs
    → AllByRecursion Q xs
all_to P Q [] f all = tt
all_to P Q (x ∷ xs) f all = (f x all.0, all_to P Q xs f all.1)

all_mapped : {X Y : Type 0} (P : X → Type 0) (Q : Y → Type 0) (g : X → Y) (xs : List X)
    → ((x : X) → P x → Q (g x)) → AllByRecursion P xs → AllByRecursion Q (map g xs)
all_mapped P Q g [] f all = tt
all_mapped P Q g (x ∷ xs) f all = (f x all.0, all_mapped P Q g xs f all.1)

any : {X : Type 0} (xs : List X) → AllByRecursion (λ x. Unit {0}) xs
any [] = tt
any (x ∷ xs) = (tt, any xs)

fine_number : (text : List ℕ) → IsFine 0 (Number text)
fine_number text = record {
  proper = record {
    nested = omega (arith, nesting-Number text);
    distinct = every-Number HasDistinctKeys (λ m. Unit {0}) text tt;
  };
  lists = every-Number HasShortList (λ m. Unit {0}) text tt;
}

fine_word : (word : List ℕ) → IsFine 0 (Word word)
fine_word word = record {
  proper = record {
    nested = omega (arith, nesting-Word word);
    distinct = every-Word HasDistinctKeys (λ m. Unit {0}) word tt;
  };
  lists = every-Word HasShortList (λ m. Unit {0}) word tt;
}

fine_list : (n : ℕ) (items : List Json) → length items < 2 ^ 32 → AllByRecursion (IsFine n) items
    → IsFine (suc n) (trees.List items)
fine_list n items few all =
    let nests : largest (map nesting items) ≤ n =
    bounds_largest nesting items n (all_to (IsFine n) (λ t. nesting t ≤ n) items (λ t f. f.proper.nested) all) in
    record {
      proper = record {
        nested = omega (arith, nesting-List items, nests);
        distinct = every-List HasDistinctKeys (λ m. Unit {0}) items
            (all_to (IsFine n) _ items (λ t f. f.proper.distinct) all) tt;
      };
      lists = every-List HasShortList (λ m. Unit {0}) items
          (all_to (IsFine n) HasShortLists items (λ t f. f.lists) all) few;
    }

-- a list of what elements are as trees
fine_all : {X : Type 0} (P : X → Type 0) (n : ℕ) (tree_of : X → Json) (xs : List X) → length xs < 2 ^ 32
    → ((x : X) → P x → IsFine n (tree_of x)) → AllByRecursion P xs
    → IsFine (suc n) (tree_of_all tree_of xs)
fine_all P n tree_of xs few f all =
    fine_list n (map tree_of xs) (omega (arith, few, length-map xs tree_of))
    (all_mapped P (IsFine n) tree_of xs f all)

deeper : (n : ℕ) (tree : Json) → n ≤ 63 → IsFine n tree → IsFine 63 tree
deeper n tree within fine = record {
  proper = record { nested = omega (arith, within, fine.proper.nested); distinct = fine.proper.distinct };
  lists = fine.lists;
}

-- ---- lists without a misfit

none_from : {X : Type 0} (P : X → Type 0) (misfit : Json → Option ShapeKind) (tree_of : X → Json)
    → ((x : X) → P x → misfit (tree_of x) ≡ None) → (from : ℕ) (xs : List X) → AllByRecursion P xs
    → first_along (misfit_at misfit) from (map tree_of xs) ≡ None
none_from P misfit tree_of none from [] all = refl
none_from P misfit tree_of none from (x ∷ xs) all =
    ap (λ cause. or_else (option_map (λ c. record { index = from; cause = c }) cause)
    (first_along (misfit_at misfit) (suc from) (map tree_of xs))) (none x all.0)
    ∙ none_from P misfit tree_of none (suc from) xs all.1

-- a list is read, where each element's tree is
list_fits : {X : Type 0} (P : X → Type 0) (misfit : Json → Option ShapeKind) (tree_of : X → Json)
    → ((x : X) → P x → misfit (tree_of x) ≡ None) → (xs : List X) → AllByRecursion P xs
    → of_list misfit (tree_of_all tree_of xs) ≡ None
list_fits P misfit tree_of none xs all =
    of_list-List misfit (map tree_of xs) ∙ none_from P misfit tree_of none 0 xs all

number_passes : (text : List ℕ) → is_number (Number text) ≡ true
number_passes text = ap is_number_layer (trees.outs-Number text)

word_passes : (word : List ℕ) → is_word (Word word) ≡ true
word_passes word = ap is_word_layer (trees.outs-Word word)

same_bytes : (a : List ℕ) → bytes_eq a a ≡ true
same_bytes a = (bytes_eq-Decides a a).1 refl

id_passes : (id : ℕ) → id < 2 ^ 32 → is_id (tree_of_id id) ≡ true
id_passes id small =
    let value : digits_value 10 (decimal id) ≡ id =
    digits_value-decimal (numerals_by_value (AllDigits 10) tells_digits) id (omega (arith, small)) in
    let within : nat_lt id (2 ^ 32) ≡ true = lt-ltb id (2 ^ 32) small in
    ap (λ layer. is_some (id_in_layer layer)) (trees.outs-Number (decimal id))
    ∙ ap (λ n. is_some (if bytes_eq (decimal id) (decimal n) && nat_lt n (2 ^ 32) then Some n else None)) value
    ∙ (λ i. is_some (if same_bytes (decimal id) i && within i then Some id else None))

coords_fit : (t : List ℕ × List ℕ)
    → misfit_of_coords (tree_of_all tree_of_number (t.0 ∷ t.1 ∷ [])) ≡ None
coords_fit t =
    ap (misfit_of_inner (λ n. n == 2 || n == 3) is_number) (trees.outs-List _)
    ∙ (λ i. if number_passes t.0 i && (number_passes t.1 i && true) then None else Some causes.NotKind)

pair_fits : {X : Type 0} (passes : Json → Bool) (tree_of : X → Json) (p : X × X)
    → passes (tree_of p.0) ≡ true → passes (tree_of p.1) ≡ true
    → misfit_of_pair passes (tree_of_pair tree_of p) ≡ None
pair_fits passes tree_of p first second =
    ap (misfit_of_inner (λ n. n == 2) passes) (trees.outs-List _)
    ∙ (λ i. if first i && (second i && true) then None else Some causes.NotKind)

ids_pass : (ids : List ℕ) → AllByRecursion (λ id. id < 2 ^ 32) ids
    → list_all is_id (map (tree_or_null tree_of_id) (map Some ids)) ≡ true
ids_pass [] all = refl
ids_pass (id ∷ ids) all = λ i. id_passes id all.0 i && ids_pass ids all.1 i

ids_fit : (ids : List ℕ) → AllByRecursion (λ id. id < 2 ^ 32) ids
    → misfit_of_all is_id (tree_of_all (tree_or_null tree_of_id) (map Some ids)) ≡ None
ids_fit ids all =
    ap (misfit_of_inner (λ n. true) is_id) (trees.outs-List _)
    ∙ ap (λ b. if b then None else Some causes.NotKind) (ids_pass ids all)

letter_fits : (letter : Letter) → misfit_of_letter (tree_of_letter letter) ≡ None
letter_fits letter = ap misfit_of_letter_layer (trees.outs-Word _) ∙ known letter
  where
    known : (l : Letter) → misfit_of_letter_layer (layers.Word (spelling l ∷ [])) ≡ None
    known Border = refl
    known Mountain = refl
    known Valley = refl
    known Flat = refl
    known Unassigned = refl
    known Cut = refl
    known Join = refl

side_text : (text digits : List ℕ) → text ≡ digits → is_side digits ≡ true
    → misfit_of_side_layer (out-Json (Number text)) ≡ None
side_text text digits same passes =
    ap misfit_of_side_layer (trees.outs-Number text)
    ∙ ap (λ t. if is_side t then None else Some causes.Side) same
    ∙ ap (λ b. if b then None else Some causes.Side) passes

side_fits : (side : ℤ) → (negsuc 0 ≤ℤ side) → (side ≤ℤ pos 1)
    → misfit_of_side_layer (out-Json (tree_of_side side)) ≡ None
side_fits (pos zero) low high = side_text _ (codes "0") (decimal_digit 0 (omega arith)) refl
side_fits (pos (suc zero)) low high = side_text _ (codes "1") (decimal_digit 1 (omega arith)) refl
side_fits (pos (suc (suc n))) low high = absurd (omega (arith, ints, high))
side_fits (negsuc zero) low high =
    side_text _ (codes "-1") (ap (λ ds. 45 ∷ ds) (decimal_digit 1 (omega arith))) refl
side_fits (negsuc (suc n)) low high = absurd (omega (arith, ints, low))

order_fits : (count : ℕ) → count ≤ 2 ^ 32 → (order : FaceOrder) → IsOrderWithin count order
    → misfit_of_order (tree_of_order order) ≡ None
order_fits count most order is =
    let first = id_passes order.first (omega (arith, most, is.first)) in
    let second = id_passes order.second (omega (arith, most, is.second)) in
    ap misfit_of_order_layer (trees.outs-List _)
    ∙ (λ i. if first i && second i then misfit_of_side_layer (out-Json (tree_of_side order.side)) else Some causes.NotKind)
    ∙ side_fits order.side is.side.0 is.side.1

-- ---- entries

entry_by : (key : List ℕ) (kind : Kind) (value : Value) (n : ℕ) → kind_by true key ≡ Some kind
    → IsOfKind (Some kind) value → misfit_of_value kind (tree_of_value [] value) ≡ None → n ≤ 63
    → IsFine n (tree_of_value [] value)
    → (kind ≡ kinds.Spec → HasShortNumber (out-Json (tree_of_value [] value)))
    → IsWritableEntry true (entry key value)
entry_by key kind value n known is none within fine short =
    let deep = deeper n (tree_of_value [] value) within fine in
    record {
      fits = record {
        of_kind = subst (λ k. IsOfKind k value) (sym known) is;
        no_misfit = subst (λ k. HasNoMisfit k (tree_of_value [] value)) (sym known) none;
      };
      proper = deep.proper;
      lists = deep.lists;
      version = λ spec. short (same_Some kind kinds.Spec (sym known ∙ spec));
    }

below_spec : is_above_spec (codes "1.2") ≡ false
unfolding is_above_spec
below_spec = refl

spec_writable : IsWritableEntry true (entry (codes "file_spec") (values.Number (codes "1.2")))
spec_writable =
    entry_by (codes "file_spec") kinds.Spec (values.Number (codes "1.2")) 0 refl tt
    (ap of_spec_layer (trees.outs-Number _) ∙ ap (λ b. if b then whole causes.Spec else None) below_spec)
    (omega arith) (fine_number (codes "1.2"))
    (λ spec. subst HasShortNumber (sym (trees.outs-Number (codes "1.2"))) (omega arith))

creator_writable : IsWritableEntry true (entry (codes "file_creator") (values.Word (codes "fold_program")))
creator_writable =
    entry_by (codes "file_creator") kinds.Word (values.Word (codes "fold_program")) 0 refl tt
    (ap (λ b. if b then None else whole causes.NotKind) (word_passes (codes "fold_program")))
    (omega arith) (fine_word (codes "fold_program")) (λ e. cc)

classes_writable : (class : List ℕ)
    → IsWritableEntry true (entry (codes "frame_classes") (values.Words (class ∷ [])))
classes_writable class =
    entry_by (codes "frame_classes") kinds.Words (values.Words (class ∷ [])) 1 refl tt
    (list_fits (λ w. Unit {0}) (misfit_of_plain is_word) tree_of_word
    (λ w u. ap (λ b. if b then None else Some causes.NotKind) (word_passes w)) (class ∷ []) (tt, tt))
    (omega arith)
    (fine_all (λ w. Unit {0}) 0 tree_of_word (class ∷ []) (omega arith) (λ w u. fine_word w) (tt, tt))
    (λ e. cc)

-- two texts, as a list
abbrev IsPaired : List (List ℕ) → Type 0
IsPaired list = (t : List ℕ × List ℕ) × (list ≡ t.0 ∷ t.1 ∷ [])

pub coords_writable : (texts : List (List ℕ × List ℕ)) → length texts < 2 ^ 32
    → IsWritableEntry true (coords_entry texts)
coords_writable texts few =
    let lists = map (λ t. t.0 ∷ t.1 ∷ []) texts in
    let paired : AllByRecursion IsPaired lists =
    all_mapped (λ t. Unit {0}) IsPaired (λ t. t.0 ∷ t.1 ∷ []) texts (λ t u. (t, refl)) (any texts) in
    entry_by (codes "vertices_coords") kinds.Coords (values.Coords lists) 2 refl tt
    (list_fits IsPaired misfit_of_coords (tree_of_all tree_of_number)
    (λ list p. subst (λ l. misfit_of_coords (tree_of_all tree_of_number l) ≡ None) (sym p.1) (coords_fit p.0))
    lists paired)
    (omega arith)
    (fine_all IsPaired 1 (tree_of_all tree_of_number) lists (omega (arith, few, length-map texts (λ t. t.0 ∷ t.1 ∷ [])))
    (λ list p. subst (λ l. IsFine 1 (tree_of_all tree_of_number l)) (sym p.1)
    (fine_all (λ t. Unit {0}) 0 tree_of_number (p.0.0 ∷ p.0.1 ∷ []) (omega arith) (λ t u. fine_number t) (tt, (tt, tt))))
    paired)
    (λ e. cc)

fine_pair : {X : Type 0} (tree_of : X → Json) (p : X × X) → IsFine 0 (tree_of p.0) → IsFine 0 (tree_of p.1)
    → IsFine 1 (tree_of_pair tree_of p)
fine_pair tree_of p first second =
    fine_list 0 (tree_of p.0 ∷ tree_of p.1 ∷ []) (omega arith) (first, (second, tt))

pub exact_writable : (points : List (List ℕ × List ℕ)) → length points < 2 ^ 32
    → IsWritableEntry true (entry (codes "fx:vertices_coords") (values.Exact points))
exact_writable points few =
    entry_by (codes "fx:vertices_coords") kinds.Exact (values.Exact points) 2 refl tt
    (list_fits (λ p. Unit {0}) (misfit_of_pair is_word) (tree_of_pair tree_of_word)
    (λ p u. pair_fits is_word tree_of_word p (word_passes p.0) (word_passes p.1)) points (any points))
    (omega arith)
    (fine_all (λ p. Unit {0}) 1 (tree_of_pair tree_of_word) points few
    (λ p u. fine_pair tree_of_word p (fine_word p.0) (fine_word p.1)) (any points))
    (λ e. cc)

-- both ids are small enough
abbrev AreIds : ℕ × ℕ → Type 0
AreIds p = (p.0 < 2 ^ 32) × (p.1 < 2 ^ 32)

pairs_writable : (pairs : List (ℕ × ℕ)) → length pairs < 2 ^ 32 → AllByRecursion AreIds pairs
    → IsWritableEntry true (entry (codes "edges_vertices") (values.Pairs pairs))
pairs_writable pairs few all =
    entry_by (codes "edges_vertices") kinds.Pairs (values.Pairs pairs) 2 refl tt
    (list_fits AreIds (misfit_of_pair is_id) (tree_of_pair tree_of_id)
    (λ p ids. pair_fits is_id tree_of_id p (id_passes p.0 ids.0) (id_passes p.1 ids.1)) pairs all)
    (omega arith)
    (fine_all AreIds 1 (tree_of_pair tree_of_id) pairs few
    (λ p ids. fine_pair tree_of_id p (fine_number (decimal p.0)) (fine_number (decimal p.1))) all)
    (λ e. cc)

letters_writable : (letters : List Letter) → length letters < 2 ^ 32
    → IsWritableEntry true (entry (codes "edges_assignment") (values.Letters letters))
letters_writable letters few =
    entry_by (codes "edges_assignment") kinds.Letters (values.Letters letters) 1 refl tt
    (list_fits (λ l. Unit {0}) misfit_of_letter tree_of_letter (λ l u. letter_fits l) letters (any letters))
    (omega arith)
    (fine_all (λ l. Unit {0}) 0 tree_of_letter letters few (λ l u. fine_word (spelling l ∷ [])) (any letters))
    (λ e. cc)

-- ids that are there, and not too many
abbrev AreSome : List (Option ℕ) → Type 0
AreSome list = (ids : List ℕ) × (list ≡ map Some ids) × AllByRecursion (λ id. id < 2 ^ 32) ids
    × (length ids < 2 ^ 32)

fine_ids : (ids : List ℕ) → length ids < 2 ^ 32
    → IsFine 1 (tree_of_all (tree_or_null tree_of_id) (map Some ids))
fine_ids ids few =
    let there : AllByRecursion (λ o. (id : ℕ) × (o ≡ Some id)) (map Some ids) =
    all_mapped (λ id. Unit {0}) (λ o. (id : ℕ) × (o ≡ Some id)) Some ids (λ id u. (id, refl)) (any ids) in
    fine_all (λ o. (id : ℕ) × (o ≡ Some id)) 0 (tree_or_null tree_of_id) (map Some ids)
    (omega (arith, few, length-map ids Some))
    (λ o is. subst (λ x. IsFine 0 (tree_or_null tree_of_id x)) (sym is.1) (fine_number (decimal is.0))) there

pub lists_writable : (lists : List (List (Option ℕ))) → length lists < 2 ^ 32 → AllByRecursion AreSome lists
    → IsWritableEntry true (entry (codes "faces_vertices") (values.IdLists lists))
lists_writable lists few all =
    entry_by (codes "faces_vertices") (kinds.IdLists Vertices) (values.IdLists lists) 2 refl tt
    (list_fits AreSome (misfit_of_all is_id) (tree_of_all (tree_or_null tree_of_id))
    (λ list is. subst (λ l. misfit_of_all is_id (tree_of_all (tree_or_null tree_of_id) l) ≡ None) (sym is.1)
    (ids_fit is.0 is.2)) lists all)
    (omega arith)
    (fine_all AreSome 1 (tree_of_all (tree_or_null tree_of_id)) lists few
    (λ list is. subst (λ l. IsFine 1 (tree_of_all (tree_or_null tree_of_id) l)) (sym is.1) (fine_ids is.0 is.3)) all)
    (λ e. cc)

orders_writable : (count : ℕ) → count ≤ 2 ^ 32 → (orders : List FaceOrder) → length orders < 2 ^ 32
    → AllByRecursion (IsOrderWithin count) orders
    → IsWritableEntry true (entry (codes "faceOrders") (values.Orders orders))
orders_writable count most orders few all =
    entry_by (codes "faceOrders") kinds.Orders (values.Orders orders) 2 refl tt
    (list_fits (IsOrderWithin count) misfit_of_order tree_of_order (order_fits count most) orders all)
    (omega arith)
    (fine_all (IsOrderWithin count) 1 tree_of_order orders few
    (λ o is. fine_list 0 (tree_of_id o.first ∷ tree_of_id o.second ∷ tree_of_side o.side ∷ []) (omega arith)
    (fine_number (decimal o.first), (fine_number (decimal o.second), (fine_number (signed_decimal o.side), tt)))) all)
    (λ e. cc)

-- ---- the entries of a drawing

all_append : {X : Type 0} (P : X → Type 0) (xs ys : List X) → AllByRecursion P xs → AllByRecursion P ys
    → AllByRecursion P (xs ++ ys)
all_append P [] ys all more = more
all_append P (x ∷ xs) ys all more = (all.0, all_append P xs ys all.1 more)

pub head_writable : (class : List ℕ) → AllByRecursion (IsWritableEntry true) (head_entries class)
head_writable class = (spec_writable, (creator_writable, (classes_writable class, tt)))

pub edges_writable : (vertices : ℕ) (edges : List Edge) → vertices < 2 ^ 32 → length edges < 2 ^ 32
    → AllByRecursion (IsEdgeWithin vertices) edges
    → AllByRecursion (IsWritableEntry true) (edge_entries edges)
edges_writable vertices edges most few all = (
  pairs_writable (map (λ e. (e.from, e.to)) edges) (omega (arith, few, length-map {B = ℕ × ℕ} edges (λ e. (e.from, e.to))))
      (all_mapped (IsEdgeWithin vertices) AreIds (λ e. (e.from, e.to)) edges
      (λ e is. (omega (arith, most, is.0), omega (arith, most, is.1))) all),
  (
    letters_writable (map (λ e. e.letter) edges) (omega (arith, few, length-map edges (λ e. e.letter))),
    tt,
  ),
)

pub faces_writable : (vertices : ℕ) (faces : Option (List Face)) → vertices < 2 ^ 32
    → AreFacesWithin vertices faces → AllByRecursion (IsWritableEntry true) (face_entries faces)
faces_writable vertices None most are = tt
faces_writable vertices (Some faces) most are = (
  lists_writable (map (λ face. map Some face.corners) faces)
      (omega (arith, are.0, length-map faces (λ (face : Face). map Some face.corners)))
      (all_mapped (HasCornersWithin vertices) AreSome (λ face. map Some face.corners) faces
      (λ face has. (
        face.corners,
        refl,
        all_to (λ c. c < vertices) (λ c. c < 2 ^ 32) face.corners (λ c within. omega (arith, most, within)) has.1,
        has.0,
      )) are.1),
  tt,
)

count_most : (vertices : ℕ) (faces : Option (List Face)) → AreFacesWithin vertices faces
    → face_count faces ≤ 2 ^ 32
count_most vertices None are = omega arith
count_most vertices (Some faces) are = omega (arith, are.0)

pub orders_all_writable : (vertices : ℕ) (faces : Option (List Face)) (orders : Option (List FaceOrder))
    → AreFacesWithin vertices faces → AreOrdersWithin (face_count faces) orders
    → AllByRecursion (IsWritableEntry true) (order_entries orders)
orders_all_writable vertices faces None fit are = tt
orders_all_writable vertices faces (Some orders) fit are =
    (orders_writable (face_count faces) (count_most vertices faces fit) orders are.0 are.1, tt)

-- ---- keys

abbrev differ : List (List ℕ) → Bool
differ [] = true
differ (x ∷ xs) = list_all (λ y. not (bytes_eq x y)) xs && differ xs

all_differ : (x : List ℕ) (xs : List (List ℕ)) → list_all (λ y. not (bytes_eq x y)) xs ≡ true
    → AllByRecursion (λ y. bytes_eq x y ≡ false) xs
all_differ x [] all = tt
all_differ x (y ∷ ys) all = at (bytes_eq x y) refl (all_differ x ys)
  where
    at : (b : Bool) → bytes_eq x y ≡ b
        → (list_all (λ y. not (bytes_eq x y)) ys ≡ true → AllByRecursion (λ y. bytes_eq x y ≡ false) ys)
        → (bytes_eq x y ≡ false) × AllByRecursion (λ y. bytes_eq x y ≡ false) ys
    at true e rest =
        let clash : false ≡ true =
        ap (λ b. not b && list_all (λ y. not (bytes_eq x y)) ys) (sym e) ∙ all in cc
    at false e rest =
        (e, rest (ap (λ b. not b && list_all (λ y. not (bytes_eq x y)) ys) (sym e) ∙ all))

two_tests : (a b : Bool) → (a && b) ≡ true → (a ≡ true) × (b ≡ true)
two_tests true b e = (refl, e)
two_tests false b e = cc

distinct_by : (xs : List (List ℕ)) → differ xs ≡ true → IsDistinct bytes_eq xs
unfolding IsDistinct
distinct_by [] e = tt
distinct_by (x ∷ xs) e =
    let both = two_tests (list_all (λ y. not (bytes_eq x y)) xs) (differ xs) e in
    (all_differ x xs both.0, distinct_by xs both.1)

keys_differ : (entries : List Entry) → differ (map (λ e. e.key) entries) ≡ true
    → AreDistinct (map (λ e. e.key) entries)
keys_differ entries e =
    let keys : List (List ℕ) = map (λ e. e.key) entries in
    AllPairs-from_IsDistinct bytes_eq-Decides keys (distinct_by keys e)

module _ {N : Type 0} (k : ℕ) (parts : N → Parts) where
  abbrev all_entries : List ℕ → List (List ℕ × List ℕ) → Bool → Ends N → Option (List Face) → Option (List FaceOrder) → List Entry
  all_entries class texts nine ends faces orders =
      head_entries class ++ vertex_entries k parts texts nine ends.coords ++ edge_entries ends.edges
      ++ face_entries faces ++ order_entries orders

  distinct_keys : (class : List ℕ) (texts : List (List ℕ × List ℕ)) (nine : Bool) (ends : Ends N)
      (faces : Option (List Face)) (orders : Option (List FaceOrder))
      → AreDistinct (map (λ e. e.key) (all_entries class texts nine ends faces orders))
  distinct_keys class texts true ends None None = keys_differ (all_entries class texts true ends None None) refl
  distinct_keys class texts true ends None (Some os) = keys_differ (all_entries class texts true ends None (Some os)) refl
  distinct_keys class texts true ends (Some fs) None = keys_differ (all_entries class texts true ends (Some fs) None) refl
  distinct_keys class texts true ends (Some fs) (Some os) = keys_differ (all_entries class texts true ends (Some fs) (Some os)) refl
  distinct_keys class texts false ends None None = keys_differ (all_entries class texts false ends None None) refl
  distinct_keys class texts false ends None (Some os) = keys_differ (all_entries class texts false ends None (Some os)) refl
  distinct_keys class texts false ends (Some fs) None = keys_differ (all_entries class texts false ends (Some fs) None) refl
  distinct_keys class texts false ends (Some fs) (Some os) = keys_differ (all_entries class texts false ends (Some fs) (Some os)) refl

  vertices_writable : (coords : List (Pair N)) (texts : List (List ℕ × List ℕ)) (nine : Bool)
      → length coords < 2 ^ 32 → AllZip (AreNineTexts k parts) coords texts
      → AllByRecursion (IsWritableEntry true) (vertex_entries k parts texts nine coords)
  vertices_writable coords texts nine few are =
      (coords_writable texts (omega (arith, few, AllZip-long (AreNineTexts k parts) coords texts are)), at nine)
    where
      exact_of : Pair N → List ℕ × List ℕ
      exact_of p = (exact_text_of k (parts p.x), exact_text_of k (parts p.y))

      at : (b : Bool) → AllByRecursion (IsWritableEntry true) (exact_entries k parts b coords)
      at true = tt
      at false = (exact_writable (map exact_of coords) (omega (arith, few, length-map coords exact_of)), tt)

  entries_writable : (class : List ℕ) (texts : List (List ℕ × List ℕ)) (nine : Bool) (ends : Ends N)
      (faces : Option (List Face)) (orders : Option (List FaceOrder))
      → IsFileable parts ends faces orders → AllZip (AreNineTexts k parts) ends.coords texts
      → AreWritable true (all_entries class texts nine ends faces orders)
  entries_writable class texts nine ends faces orders is are =
      let vertices = vertex_entries k parts texts nine ends.coords in
      let edged = head_entries class ++ vertices ++ edge_entries ends.edges in
      let faced = edged ++ face_entries faces in
      let P = IsWritableEntry true in
      let count = length ends.coords in
      record {
        distinct = distinct_keys class texts nine ends faces orders;
        each =
            all_append P faced (order_entries orders)
            (all_append P edged (face_entries faces)
            (all_append P (head_entries class ++ vertices) (edge_entries ends.edges)
            (all_append P (head_entries class) vertices (head_writable class)
            (vertices_writable ends.coords texts nine is.few_vertices are))
            (edges_writable count ends.edges is.few_vertices is.few_edges is.edges))
            (faces_writable count faces is.few_vertices is.faces_fit))
            (orders_all_writable count faces orders is.faces_fit is.orders_fit);
      }

  -- what is put one after the other can be written
  pub made_writable : (class : List ℕ) (ends : Ends N) (faces : Option (List Face))
      (orders : Option (List FaceOrder)) (coords : List (Pair N)) (edges : List Edge)
      (e0 e1 e2 e3 e4 : List Entry) → IsFileable parts ends faces orders → coords ≡ ends.coords
      → edges ≡ ends.edges → e0 ≡ head_entries class
      → (vertices : List Entry) × AreVertexEntries k parts coords vertices × (e1 ≡ e0 ++ vertices)
      → e2 ≡ e1 ++ edge_entries edges → e3 ≡ e2 ++ face_entries faces → e4 ≡ e3 ++ order_entries orders
      → AreWritable true e4
  made_writable class ends faces orders coords edges e0 e1 e2 e3 e4 is c e head v edged faced ordered =
      let are = subst (λ cs. AreVertexEntries k parts cs v.0) c v.1 in
      let vertices : v.0 ≡ vertex_entries k parts are.0 are.1 ends.coords = are.4 in
      let first : e1 ≡ head_entries class ++ vertex_entries k parts are.0 are.1 ends.coords =
      v.2 ∙ (λ i. head i ++ vertices i) in
      let second : e2 ≡ head_entries class ++ vertex_entries k parts are.0 are.1 ends.coords ++ edge_entries ends.edges =
      edged ∙ (λ i. first i ++ edge_entries (e i)) in
      let whole : e4 ≡ all_entries class are.0 are.1 ends faces orders =
      ordered ∙ ap (λ es. es ++ order_entries orders) (faced ∙ ap (λ es. es ++ face_entries faces) second) in
      subst (AreWritable true) (sym whole) (entries_writable class are.0 are.1 ends faces orders is are.2)
