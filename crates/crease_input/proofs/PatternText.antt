-- the text of a pattern, piece by piece, is the printed form of its file
use Rattle.std.proofs.Common.{◌≡◌, ℕ, zero, suc, ◌+◌, ◌<◌, ◌≤◌, Bool, true, false, IsTrue, List, [], ◌∷◌, ◌++◌, map, length, take, get_or, refl, sym, ◌∙◌, ap, subst, append_assoc, arith}
use Rattle.std.specs.Prelude.{◌↔◌, codes, Option, None}
use Rattle.std.specs.Fmt.{decimal}
use Rattle.std.specs.List.{AllByRecursion, AllZip, flat_map, join_with_byte}
use Rattle.std.specs.Str.{chars}
use Rattle.std.proofs.lemmas.Bool.Decides.{nat_tests}
use Rattle.std.proofs.lemmas.Grind.{flat_map-append}
use Rattle.std.proofs.lemmas.List.{append-nil, get_or_default, map-append, take_more, take_all, length-map}
use Rattle.std.proofs.lemmas.Slice.Zip.{AllZip-long}
use Rattle.algebra.specs.LowestTerms.{Parts}
use Rattle.fold_base.specs.Letter.{spelling}
use Rattle.fold_base.specs.declared.letter.Letter.{Letter}
use Rattle.fold_base.specs.declared.letter.Letter.TheVariants.{Border, Mountain, Valley, Flat, Unassigned, Cut, Join}
use Rattle.fold_keys.specs.Trees.{member_of, tree_of_all, tree_of_pair, tree_of_number, tree_of_word, tree_of_id, tree_of_letter, tree_of_file}
use Rattle.fold_keys.specs.Writable.{file_of}
use Rattle.fold_keys.specs.declared.value.Entry.{Entry}
use Rattle.fold_keys.specs.declared.value.Value.TheVariants as values
use Rattle.json_tree.specs.PrintedForm.{comma_before, printed_form, printed_member, printed_word}
use Rattle.json_tree.specs.declared.tree.Json.{Json, Number, Word}
use Rattle.json_tree.specs.declared.tree.Json.TheViews as trees
use Rattle.json_tree.proofs.Joined.{joined, joined_more}
use Rattle.json_tree.proofs.Trees.{printed_form-List, printed_form-Object, printed_form-Number, printed_form-Word, printed_member-is}
use Rattle.number_rules.specs.ExactText.{exact_text_of}
use Rattle.scaled_plane.specs.declared.drawing.Edge.{Edge}
use Rattle.scaled_plane.specs.declared.drawing.Ends.{Ends}
use Rattle.scaled_plane.specs.declared.point.Pair.{Pair}
use Rattle.crease_input.specs.Files.{HasShortParts, AreNineDecimals, AreNineTexts, AreVertexEntries, coords_entry, entry, edge_entries, exact_entry, head_entries, vertex_entries}
use Rattle.crease_input.specs.Pattern.{IsPatternText, entries_behind, printed_exact, printed_ids, printed_letter, printed_point}
use Rattle.crease_input.proofs.Gathering.{zip_more}
use Rattle.crease_input.proofs.PlainTexts.{exact_word}

-- ---- elements with commas between them

comma : (n : ℕ) → comma_before (suc n) ≡ 44 ∷ []
comma n = grind (arith, nat_tests)

joined_last : (xs : List (List ℕ)) (y : List ℕ)
    → join_with_byte 44 (xs ++ y ∷ []) ≡ join_with_byte 44 xs ++ comma_before (length xs) ++ y
joined_last [] y = refl
joined_last (x ∷ xs) y =
    joined x (xs ++ y ∷ []) ∙ ap (λ t. x ++ t) (flat_map-append (λ y. 44 ∷ y) xs (y ∷ []))
    ∙ (rw (joined x xs, comma (length xs)) (simp (append_assoc, append-nil)))

length_zip : {A B : Type 0} (P : A → B → Type 0) (xs : List A) (ys : List B) → AllZip P xs ys → length ys ≡ length xs
length_zip P [] [] all = refl
length_zip P [] (y ∷ ys) all = absurd all
length_zip P (x ∷ xs) [] all = absurd all
length_zip P (x ∷ xs) (y ∷ ys) all = ap suc (length_zip P xs ys all.1)

length_taken : {A : Type 0} (xs : List A) (i : ℕ) → i < length xs → length (take i xs) ≡ i
length_taken [] i below = absurd (omega (arith, below))
length_taken (x ∷ xs) zero below = refl
length_taken (x ∷ xs) (suc i) below = ap suc (length_taken xs i (omega (arith, below)))

module _ {N : Type 0} (k : ℕ) (parts : N → Parts) where
  -- points were put behind a text
  pub record ArePut (coords : List (Pair N)) (start now : List ℕ) : Type 0 where
    pub texts : List (List ℕ × List ℕ)
    pub nine : AllZip (AreNineTexts k parts) coords texts
    pub put : now ≡ start ++ join_with_byte 44 (map printed_point texts)

  pub put_none : (start : List ℕ) → ArePut [] start start
  put_none start = record { texts = []; nine = tt; put = sym (append-nil start) }

  pub put_more : (coords : List (Pair N)) (i : ℕ) (point : Pair N) (start old between now : List ℕ)
      → i < length coords → point ≡ get_or coords i point → between ≡ old ++ comma_before i
      → (t : List ℕ × List ℕ) × AreNineTexts k parts point t × (now ≡ between ++ printed_point t)
      → ArePut (take i coords) start old → ArePut (take (i + 1) coords) start now
  put_more coords i point start old between now below at comma_put here are =
      let count : length (map printed_point are.texts) ≡ i =
      length-map are.texts printed_point ∙ length_zip (AreNineTexts k parts) (take i coords) are.texts are.nine
      ∙ length_taken coords i below in
      let all : join_with_byte 44 (map printed_point (are.texts ++ here.0 ∷ []))
      ≡ join_with_byte 44 (map printed_point are.texts) ++ comma_before i ++ printed_point here.0 =
      ap (join_with_byte 44) (map-append printed_point are.texts (here.0 ∷ []))
      ∙ joined_last (map printed_point are.texts) (printed_point here.0)
      ∙ ap (λ n. join_with_byte 44 (map printed_point are.texts) ++ comma_before n ++ printed_point here.0) count in
      record {
        texts = are.texts ++ here.0 ∷ [];
        nine = subst (λ ps. AllZip (AreNineTexts k parts) ps (are.texts ++ here.0 ∷ []))
            (ap (λ p. take i coords ++ p ∷ []) at ∙ sym (take_more coords i point below))
            (zip_more (AreNineTexts k parts) (take i coords) are.texts point here.0 are.nine here.1);
        put = here.2 ∙ ap (λ t. t ++ printed_point here.0) (comma_put ∙ ap (λ t. t ++ comma_before i) are.put)
            ∙ append_thrice start _ _ _ ∙ ap (λ t. start ++ t) (sym all);
      }
    where
      append_thrice : (a b c d : List ℕ) → ((a ++ b) ++ c) ++ d ≡ a ++ (b ++ c ++ d)
      append_thrice a b c d = simp append_assoc

  pub put_all : (coords : List (Pair N)) (i : ℕ) (start now : List ℕ) → length coords ≤ i
      → ArePut (take i coords) start now → ArePut coords start now
  put_all coords i start now all are = subst (λ ps. ArePut ps start now) (take_all i coords all) are

-- a loop over elements that are read with a default
pub joined_at : {X : Type 0} (xs : List X) (i : ℕ) (d : X) → i < length xs → (f : X → List ℕ) (start before between after : List ℕ)
    → before ≡ start ++ join_with_byte 44 (map f (take i xs)) → between ≡ before ++ comma_before i
    → after ≡ between ++ f (get_or xs i d) → after ≡ start ++ join_with_byte 44 (map f (take (i + 1) xs))
joined_at xs i d below f start before between after b m a =
    joined_more xs i (get_or xs i d) below (get_or_default xs i d (get_or xs i d) below) f start before between after b m a

-- ---- pieces put one after the other

five_pieces : (start a b c d e : List ℕ) → ((((start ++ a) ++ b) ++ c) ++ d) ++ e ≡ start ++ ((((a ++ b) ++ c) ++ d) ++ e)
five_pieces start a b c d e = simp append_assoc

-- a point by its two texts
pub point_put : (texts : List ℕ × List ℕ) (start s1 s2 s3 s4 s5 : List ℕ) → s1 ≡ start ++ (91 ∷ []) → s2 ≡ s1 ++ texts.0
    → s3 ≡ s2 ++ (44 ∷ []) → s4 ≡ s3 ++ texts.1 → s5 ≡ s4 ++ (93 ∷ []) → s5 ≡ start ++ printed_point texts
point_put texts start s1 s2 s3 s4 s5 e1 e2 e3 e4 e5 =
    rw (e5, e4, e3, e2, e1) (five_pieces start (91 ∷ []) texts.0 (44 ∷ []) texts.1 (93 ∷ []))
    ∙ ap (λ u. start ++ ((91 ∷ u) ++ (93 ∷ []))) (append_assoc texts.0 (44 ∷ []) texts.1)

six_pieces : (start a b c d e f : List ℕ)
    → (((((start ++ a) ++ b) ++ c) ++ d) ++ e) ++ f ≡ start ++ (a ++ (b ++ (c ++ (d ++ (e ++ f)))))
six_pieces start a b c d e f = simp append_assoc

-- three numbers with commas between them, and what is behind them
pub exact_pieces : (a b q mark start s1 s2 s3 s4 s5 s6 : List ℕ) → s1 ≡ start ++ a → s2 ≡ s1 ++ (44 ∷ []) → s3 ≡ s2 ++ b
    → s4 ≡ s3 ++ (44 ∷ []) → s5 ≡ s4 ++ q → s6 ≡ s5 ++ mark → s6 ≡ start ++ (a ++ (44 ∷ (b ++ (44 ∷ (q ++ mark)))))
exact_pieces a b q mark start s1 s2 s3 s4 s5 s6 e1 e2 e3 e4 e5 e6 =
    rw (e6, e5, e4, e3, e2, e1) (six_pieces start a (44 ∷ []) b (44 ∷ []) q mark)

-- ---- what is put is the printed form

-- a list of elements that are printed like this
printed_all : {X : Type 0} (tree_of : X → Json) (printed : X → List ℕ) → ((x : X) → printed_form (tree_of x) ≡ printed x)
    → (xs : List X) → printed_form (trees.List (map tree_of xs)) ≡ (91 ∷ join_with_byte 44 (map printed xs)) ++ (93 ∷ [])
printed_all tree_of printed same xs =
    printed_form-List (map tree_of xs) ∙ ap (λ ys. (91 ∷ join_with_byte 44 ys) ++ (93 ∷ [])) (forms xs)
  where
    forms : (ys : List _) → map printed_form (map tree_of ys) ≡ map printed ys
    forms [] = refl
    forms (y ∷ ys) = λ i. same y i ∷ forms ys i

point_printed : (t : List ℕ × List ℕ) → printed_form (tree_of_all tree_of_number (t.0 ∷ t.1 ∷ [])) ≡ printed_point t
point_printed t =
    printed_form-List (Number t.0 ∷ Number t.1 ∷ [])
    ∙ (λ i. (91 ∷ (printed_form-Number t.0 i ++ (44 ∷ printed_form-Number t.1 i))) ++ (93 ∷ []))

ids_printed : (edge : Edge) → printed_form (tree_of_pair tree_of_id (edge.from, edge.to)) ≡ printed_ids edge
ids_printed edge =
    printed_form-List (tree_of_id edge.from ∷ tree_of_id edge.to ∷ [])
    ∙ (λ i. (91 ∷ (printed_form-Number (decimal edge.from) i ++ (44 ∷ printed_form-Number (decimal edge.to) i))) ++ (93 ∷ []))

letter_word : (letter : Letter) → printed_word (spelling letter ∷ []) ≡ printed_letter letter
unfolding chars lib.Utf8.encode
letter_word Border = refl
letter_word Mountain = refl
letter_word Valley = refl
letter_word Flat = refl
letter_word Unassigned = refl
letter_word Cut = refl
letter_word Join = refl

letter_printed : (letter : Letter) → printed_form (tree_of_letter letter) ≡ printed_letter letter
letter_printed letter = printed_form-Word (spelling letter ∷ []) ∙ letter_word letter

-- ---- entries behind others

behind : (e : Entry) (start front inner now between end : List ℕ)
    → front ≡ start ++ between → inner ≡ front ++ end → now ≡ inner ++ (93 ∷ [])
    → 44 ∷ printed_member (member_of [] e) ≡ (between ++ end) ++ (93 ∷ [])
    → now ≡ start ++ entries_behind (e ∷ [])
behind e start front inner now between end a b c printed =
    c ∙ ap (λ t. t ++ (93 ∷ [])) (b ∙ ap (λ t. t ++ end) a) ∙ assoc ∙ ap (λ t. start ++ t) (sym printed)
    ∙ ap (λ t. start ++ t) (sym (append-nil (44 ∷ printed_member (member_of [] e))))
  where
    assoc : ((start ++ between) ++ end) ++ (93 ∷ []) ≡ start ++ ((between ++ end) ++ (93 ∷ []))
    assoc = simp append_assoc

coords_key : (44 ∷ printed_word (codes "vertices_coords")) ++ (58 ∷ 91 ∷ []) ≡ codes ",\"vertices_coords\":["
unfolding chars lib.Utf8.encode
coords_key = refl

exact_key : (44 ∷ printed_word (codes "fx:vertices_coords")) ++ (58 ∷ 91 ∷ []) ≡ codes ",\"fx:vertices_coords\":["
unfolding chars lib.Utf8.encode
exact_key = refl

pairs_key : (44 ∷ printed_word (codes "edges_vertices")) ++ (58 ∷ 91 ∷ []) ≡ codes ",\"edges_vertices\":["
unfolding chars lib.Utf8.encode
pairs_key = refl

letters_key : (44 ∷ printed_word (codes "edges_assignment")) ++ (58 ∷ 91 ∷ []) ≡ codes ",\"edges_assignment\":["
unfolding chars lib.Utf8.encode
letters_key = refl

-- the member of a list, behind a comma
list_member : (key : List ℕ) (value : Json) (inner front : List ℕ) → printed_form value ≡ (91 ∷ inner) ++ (93 ∷ [])
    → (44 ∷ printed_word key) ++ (58 ∷ 91 ∷ []) ≡ front
    → 44 ∷ printed_member (record { key = key; value = value }) ≡ (front ++ inner) ++ (93 ∷ [])
list_member key value inner front form named =
    ap (λ t. 44 ∷ t) (printed_member-is (record { key = key; value = value }))
    ∙ ap (λ t. ((44 ∷ printed_word key) ++ (58 ∷ [])) ++ t) form ∙ assoc ∙ ap (λ t. (t ++ inner) ++ (93 ∷ [])) named
  where
    assoc : ((44 ∷ printed_word key) ++ (58 ∷ [])) ++ ((91 ∷ inner) ++ (93 ∷ []))
        ≡ (((44 ∷ printed_word key) ++ (58 ∷ 91 ∷ [])) ++ inner) ++ (93 ∷ [])
    assoc = simp append_assoc

behind_both : (es fs : List Entry) → entries_behind (es ++ fs) ≡ entries_behind es ++ entries_behind fs
behind_both es fs = flat_map-append (λ e. 44 ∷ printed_member (member_of [] e)) es fs

-- an entry put behind others
then_behind : (e f : Entry) (start middle now : List ℕ) → middle ≡ start ++ entries_behind (e ∷ [])
    → now ≡ middle ++ entries_behind (f ∷ []) → now ≡ start ++ entries_behind (e ∷ f ∷ [])
then_behind e f start middle now a b =
    b ∙ ap (λ t. t ++ entries_behind (f ∷ [])) a ∙ append_assoc start _ _
    ∙ ap (λ t. start ++ t) (sym (behind_both (e ∷ []) (f ∷ [])))

coords_put : (texts : List (List ℕ × List ℕ)) (start front inner now : List ℕ)
    → front ≡ start ++ codes ",\"vertices_coords\":[" → inner ≡ front ++ join_with_byte 44 (map printed_point texts)
    → now ≡ inner ++ (93 ∷ []) → now ≡ start ++ entries_behind (coords_entry texts ∷ [])
coords_put texts start front inner now a b c =
    behind (coords_entry texts) start front inner now _ _ a b c
    (list_member (codes "vertices_coords") _ _ _
    (ap (λ ts. printed_form (trees.List ts)) (twice texts)
    ∙ printed_all (λ (t : List ℕ × List ℕ). tree_of_all tree_of_number (t.0 ∷ t.1 ∷ [])) printed_point point_printed texts) coords_key)
  where
    twice : (ts : List (List ℕ × List ℕ)) → map (tree_of_all tree_of_number) (map (λ t. t.0 ∷ t.1 ∷ []) ts)
        ≡ map (λ (t : List ℕ × List ℕ). tree_of_all tree_of_number (t.0 ∷ t.1 ∷ [])) ts
    twice [] = refl
    twice (t ∷ ts) = λ i. tree_of_all tree_of_number (t.0 ∷ t.1 ∷ []) ∷ twice ts i

pairs_put : (edges : List Edge) (start front inner now : List ℕ)
    → front ≡ start ++ codes ",\"edges_vertices\":[" → inner ≡ front ++ join_with_byte 44 (map printed_ids edges)
    → now ≡ inner ++ (93 ∷ [])
    → now ≡ start ++ entries_behind (entry (codes "edges_vertices") (values.Pairs (map (λ edge. (edge.from, edge.to)) edges)) ∷ [])
pairs_put edges start front inner now a b c =
    behind (entry (codes "edges_vertices") (values.Pairs (map (λ edge. (edge.from, edge.to)) edges))) start front inner now _ _ a b c
    (list_member (codes "edges_vertices") _ _ _
    (ap (λ ts. printed_form (trees.List ts)) (twice edges)
    ∙ printed_all (λ (e : Edge). tree_of_pair tree_of_id (e.from, e.to)) printed_ids ids_printed edges) pairs_key)
  where
    twice : (es : List Edge) → map (tree_of_pair tree_of_id) (map (λ edge. (edge.from, edge.to)) es)
        ≡ map (λ (e : Edge). tree_of_pair tree_of_id (e.from, e.to)) es
    twice [] = refl
    twice (e ∷ es) = λ i. tree_of_pair tree_of_id (e.from, e.to) ∷ twice es i

letters_put : (edges : List Edge) (start front inner now : List ℕ)
    → front ≡ start ++ codes ",\"edges_assignment\":[" → inner ≡ front ++ join_with_byte 44 (map (λ edge. printed_letter edge.letter) edges)
    → now ≡ inner ++ (93 ∷ [])
    → now ≡ start ++ entries_behind (entry (codes "edges_assignment") (values.Letters (map (λ edge. edge.letter) edges)) ∷ [])
letters_put edges start front inner now a b c =
    behind (entry (codes "edges_assignment") (values.Letters (map (λ edge. edge.letter) edges))) start front inner now _ _ a b c
    (list_member (codes "edges_assignment") _ _ _
    (ap (λ ts. printed_form (trees.List ts)) (twice edges)
    ∙ printed_all (λ (e : Edge). tree_of_letter e.letter) (λ edge. printed_letter edge.letter) (λ e. letter_printed e.letter) edges) letters_key)
  where
    twice : (es : List Edge) → map tree_of_letter (map (λ edge. edge.letter) es) ≡ map (λ (e : Edge). tree_of_letter e.letter) es
    twice [] = refl
    twice (e ∷ es) = λ i. tree_of_letter e.letter ∷ twice es i

pub edges_put : (edges : List Edge) (start s1 s2 s3 s4 s5 s6 : List ℕ) → s1 ≡ start ++ codes ",\"edges_vertices\":["
    → s2 ≡ s1 ++ join_with_byte 44 (map printed_ids edges) → s3 ≡ s2 ++ (93 ∷ []) → s4 ≡ s3 ++ codes ",\"edges_assignment\":["
    → s5 ≡ s4 ++ join_with_byte 44 (map (λ edge. printed_letter edge.letter) edges) → s6 ≡ s5 ++ (93 ∷ [])
    → s6 ≡ start ++ entries_behind (edge_entries edges)
edges_put edges start s1 s2 s3 s4 s5 s6 e1 e2 e3 e4 e5 e6 =
    then_behind (entry (codes "edges_vertices") (values.Pairs (map (λ edge. (edge.from, edge.to)) edges)))
    (entry (codes "edges_assignment") (values.Letters (map (λ edge. edge.letter) edges))) start s3 s6
    (pairs_put edges start s1 s2 s3 e1 e2 e3) (letters_put edges s3 s4 s5 s6 e4 e5 e6)

-- ---- the whole text

abbrev spec_entry : Entry
spec_entry = entry (codes "file_spec") (values.Number (codes "1.2"))

abbrev creator_entry : Entry
creator_entry = entry (codes "file_creator") (values.Word (codes "fold_program"))

abbrev class_entry : Entry
class_entry = entry (codes "frame_classes") (values.Words (codes "creasePattern" ∷ []))

spec_text : (printed_word (codes "file_spec") ++ (58 ∷ [])) ++ codes "1.2" ≡ codes "\"file_spec\":1.2"
unfolding chars lib.Utf8.encode
spec_text = refl

creator_text : 44 ∷ ((printed_word (codes "file_creator") ++ (58 ∷ [])) ++ printed_word (codes "fold_program")) ≡ codes ",\"file_creator\":\"fold_program\""
unfolding chars lib.Utf8.encode
creator_text = refl

class_text : 44 ∷ ((printed_word (codes "frame_classes") ++ (58 ∷ [])) ++ ((91 ∷ printed_word (codes "creasePattern")) ++ (93 ∷ [])))
    ≡ codes ",\"frame_classes\":[\"creasePattern\"]"
unfolding chars lib.Utf8.encode
class_text = refl

head_text : (123 ∷ printed_member (member_of [] spec_entry)) ++ entries_behind (creator_entry ∷ class_entry ∷ [])
    ≡ codes "{\"file_spec\":1.2,\"file_creator\":\"fold_program\",\"frame_classes\":[\"creasePattern\"]"
head_text =
    let spec = printed_member-is (record { key = codes "file_spec"; value = Number (codes "1.2") })
    ∙ ap (λ t. (printed_word (codes "file_spec") ++ (58 ∷ [])) ++ t) (printed_form-Number (codes "1.2")) ∙ spec_text in
    let creator = ap (λ t. 44 ∷ t) (printed_member-is (record { key = codes "file_creator"; value = Word (codes "fold_program") })
    ∙ ap (λ t. (printed_word (codes "file_creator") ++ (58 ∷ [])) ++ t) (printed_form-Word (codes "fold_program"))) ∙ creator_text in
    let class = ap (λ t. 44 ∷ t) (printed_member-is (record { key = codes "frame_classes"; value = trees.List (Word (codes "creasePattern") ∷ []) })
    ∙ ap (λ t. (printed_word (codes "frame_classes") ++ (58 ∷ [])) ++ t)
    (printed_form-List (Word (codes "creasePattern") ∷ []) ∙ ap (λ t. (91 ∷ t) ++ (93 ∷ [])) (printed_form-Word (codes "creasePattern")))) ∙ class_text in
    λ i. (123 ∷ spec i) ++ (creator i ++ (class i ++ []))

closing : (s h e d : List ℕ) → ((((123 ∷ s) ++ h) ++ e) ++ d) ++ (125 ∷ 10 ∷ [])
    ≡ ((123 ∷ (s ++ ((h ++ e) ++ d))) ++ (125 ∷ [])) ++ (10 ∷ [])
closing s h e d = simp append_assoc

members_behind : (es : List Entry) → flat_map (λ y. 44 ∷ y) (map printed_member (map (member_of []) es)) ≡ entries_behind es
members_behind [] = refl
members_behind (e ∷ es) = ap (λ t. (44 ∷ printed_member (member_of [] e)) ++ t) (members_behind es)

module _ {N : Type 0} (k : ℕ) (parts : N → Parts) where
  exact_put : (coords : List (Pair N)) (start front inner now : List ℕ) → AllByRecursion (HasShortParts parts) coords
      → front ≡ start ++ codes ",\"fx:vertices_coords\":[" → inner ≡ front ++ join_with_byte 44 (map (printed_exact k parts) coords)
      → now ≡ inner ++ (93 ∷ []) → now ≡ start ++ entries_behind (exact_entry k parts coords ∷ [])
  exact_put coords start front inner now short a b c =
      behind (exact_entry k parts coords) start front inner now _ _ a b c
      (list_member (codes "fx:vertices_coords") _ _ _
      (printed_form-List _ ∙ ap (λ ys. (91 ∷ join_with_byte 44 ys) ++ (93 ∷ [])) (forms coords short)) exact_key)
    where
      texts_of : Pair N → List ℕ × List ℕ
      texts_of p = (exact_text_of k (parts p.x), exact_text_of k (parts p.y))

      form : (p : Pair N) → HasShortParts parts p
          → printed_form (tree_of_pair tree_of_word (exact_text_of k (parts p.x), exact_text_of k (parts p.y))) ≡ printed_exact k parts p
      form p h =
          let x = printed_form-Word (exact_text_of k (parts p.x)) ∙ exact_word k (parts p.x) h.0 in
          let y = printed_form-Word (exact_text_of k (parts p.y)) ∙ exact_word k (parts p.y) h.1 in
          printed_form-List (Word (exact_text_of k (parts p.x)) ∷ Word (exact_text_of k (parts p.y)) ∷ [])
          ∙ (λ i. (91 ∷ (x i ++ (44 ∷ y i))) ++ (93 ∷ [])) ∙ assoc (exact_text_of k (parts p.x)) (exact_text_of k (parts p.y))
        where
          assoc : (s t : List ℕ) → (91 ∷ (((34 ∷ s) ++ (34 ∷ [])) ++ (44 ∷ ((34 ∷ t) ++ (34 ∷ []))))) ++ (93 ∷ [])
              ≡ ((91 ∷ 34 ∷ s) ++ (34 ∷ 44 ∷ 34 ∷ t)) ++ (34 ∷ 93 ∷ [])
          assoc s t =
              ap (λ u. 91 ∷ 34 ∷ u) (append_assoc (s ++ (34 ∷ [])) (44 ∷ 34 ∷ (t ++ (34 ∷ []))) (93 ∷ [])
              ∙ append_assoc s (34 ∷ []) _ ∙ ap (λ u. s ++ (34 ∷ 44 ∷ 34 ∷ u)) (append_assoc t (34 ∷ []) (93 ∷ []))
              ∙ sym (append_assoc s (34 ∷ 44 ∷ 34 ∷ t) (34 ∷ 93 ∷ [])))

      forms : (ps : List (Pair N)) → AllByRecursion (HasShortParts parts) ps
          → map printed_form (map (tree_of_pair tree_of_word) (map (λ p. (exact_text_of k (parts p.x), exact_text_of k (parts p.y))) ps))
          ≡ map (printed_exact k parts) ps
      forms [] all = refl
      forms (p ∷ ps) all = λ i. form p all.0 i ∷ forms ps all.1 i

  -- the vertices as they are put, with nine decimals alone
  pub nine_vertices : (coords : List (Pair N)) (start front inner now : List ℕ) → ArePut k parts coords front inner
      → front ≡ start ++ codes ",\"vertices_coords\":[" → now ≡ inner ++ (93 ∷ [])
      → (test : Bool) → (IsTrue test ↔ AllByRecursion (AreNineDecimals parts) coords) → test ≡ true
      → (entries : List Entry) × AreVertexEntries k parts coords entries × (now ≡ start ++ entries_behind entries)
  nine_vertices coords start front inner now are a c test tests e = (
    coords_entry are.texts ∷ [],
    (are.texts, test, are.nine, tests, ap (λ b. vertex_entries k parts are.texts b coords) (sym e)),
    coords_put are.texts start front inner now a are.put c,
  )

  -- with exact texts too
  pub exact_vertices : (coords : List (Pair N)) (start front inner middle exact_front exact_inner now : List ℕ)
      → AllByRecursion (HasShortParts parts) coords → ArePut k parts coords front inner
      → front ≡ start ++ codes ",\"vertices_coords\":[" → middle ≡ inner ++ (93 ∷ [])
      → exact_front ≡ middle ++ codes ",\"fx:vertices_coords\":["
      → exact_inner ≡ exact_front ++ join_with_byte 44 (map (printed_exact k parts) coords)
      → now ≡ exact_inner ++ (93 ∷ [])
      → (test : Bool) → (IsTrue test ↔ AllByRecursion (AreNineDecimals parts) coords) → test ≡ false
      → (entries : List Entry) × AreVertexEntries k parts coords entries × (now ≡ start ++ entries_behind entries)
  exact_vertices coords start front inner middle exact_front exact_inner now short are a c d f g test tests e = (
    coords_entry are.texts ∷ exact_entry k parts coords ∷ [],
    (are.texts, test, are.nine, tests, ap (λ b. vertex_entries k parts are.texts b coords) (sym e)),
    then_behind (coords_entry are.texts) (exact_entry k parts coords) start middle now
        (coords_put are.texts start front inner middle a are.put c)
        (exact_put coords middle exact_front exact_inner now short d f g),
  )

  pub is_pattern : (ends : Ends N) (head vertices edges text : List ℕ)
      → head ≡ codes "{\"file_spec\":1.2,\"file_creator\":\"fold_program\",\"frame_classes\":[\"creasePattern\"]"
      → (entries : List Entry) × AreVertexEntries k parts ends.coords entries × (vertices ≡ head ++ entries_behind entries)
      → edges ≡ vertices ++ entries_behind (edge_entries ends.edges) → text ≡ edges ++ codes "}\n"
      → IsPatternText k parts ends text
  is_pattern ends head vertices edges text h (es, are, v) e t =
      (file_of (spec_entry ∷ rest), (es, are, refl), put ∙ sym printed)
    where
      others : List Entry
      others = creator_entry ∷ class_entry ∷ []

      rest : List Entry
      rest = (((others ++ es) ++ edge_entries ends.edges) ++ []) ++ []

      first : List ℕ
      first = printed_member (member_of [] spec_entry)

      behind_rest : entries_behind rest ≡ (entries_behind others ++ entries_behind es) ++ entries_behind (edge_entries ends.edges)
      behind_rest =
          ap entries_behind (append-nil _ ∙ append-nil ((others ++ es) ++ edge_entries ends.edges))
          ∙ behind_both (others ++ es) (edge_entries ends.edges)
          ∙ ap (λ s. s ++ entries_behind (edge_entries ends.edges)) (behind_both others es)

      printed : printed_form (tree_of_file (file_of (spec_entry ∷ rest))) ++ (10 ∷ [])
          ≡ ((123 ∷ (first ++ ((entries_behind others ++ entries_behind es) ++ entries_behind (edge_entries ends.edges)))) ++ (125 ∷ [])) ++ (10 ∷ [])
      printed =
          ap (λ s. s ++ (10 ∷ [])) (printed_form-Object (map (member_of []) (spec_entry ∷ rest))
          ∙ ap (λ s. (123 ∷ s) ++ (125 ∷ [])) (joined first (map printed_member (map (member_of []) rest))
          ∙ ap (λ s. first ++ s) (members_behind rest ∙ behind_rest)))

      put : text ≡ ((123 ∷ (first ++ ((entries_behind others ++ entries_behind es) ++ entries_behind (edge_entries ends.edges)))) ++ (125 ∷ [])) ++ (10 ∷ [])
      put =
          t ∙ ap (λ s. s ++ (125 ∷ 10 ∷ [])) (e ∙ ap (λ s. s ++ entries_behind (edge_entries ends.edges))
          (v ∙ ap (λ s. s ++ entries_behind es) (h ∙ sym head_text)))
          ∙ closing first (entries_behind others) (entries_behind es) (entries_behind (edge_entries ends.edges))
