-- no list, object, number, word or key that a text spells is longer than the text; a comma stands
-- between any two elements, and brackets stand round all; a number is its own text; and each
-- character of a word is spelled by no fewer bytes than it has in UTF-8
use Rattle.std.proofs.Common.{◌≡◌, ℕ, ◌+◌, ◌≤◌, List, [], ◌∷◌, ◌++◌, length, sym, ◌∙◌, ap, subst, append_assoc, arith, encode_utf8, encode_utf8_all}
use Rattle.std.specs.List.{AllByRecursion}
use Rattle.std.proofs.lemmas.List.{length-append}
use Rattle.std.proofs.lemmas.Str.{length-encode, len_utf8_bounds, len_utf8_ascii, encodes-append}
use Rattle.json_tree.specs.Spells.{Spells, SpellsValue, SpellsItem, SpellsItems, SpellsMember, SpellsMembers, null, truth, number, word, empty_list, list, empty_object, object, item, first, next, member, first_member, next_member}
use Rattle.json_tree.specs.Word.{SpellsUnit, SpellsCharacter, itself, escaped, by_unit, by_pair, SpellsCharacters, none, more, SpellsWord}
use Rattle.json_tree.specs.Tree.{HasLengthUpTo, HasLengthsUpTo, MemberHasLengthsUpTo}
use Rattle.json_tree.specs.declared.tree.Json.{Json}
use Rattle.json_tree.specs.declared.tree.Json.TheViews as trees
use Rattle.json_tree.specs.declared.tree.Member.{Member}
use Rattle.json_tree.proofs.Joined.{with_last}
use Rattle.json_tree.proofs.SpelledTrees.{escaped_low}
use Rattle.json_tree.proofs.Trees.{every-Null, every-Truth, every-Number, every-Word, every-List, every-Object, every_member}

-- ---- how long the parts of a text are

bracketed_length : (opening closing : ℕ) (text inner : List ℕ) → text ≡ (opening ∷ []) ++ inner ++ (closing ∷ []) → length text ≡ length inner + 2
bracketed_length opening closing text inner te = let e = ap length te in let l = length-append inner (closing ∷ []) in omega (arith, e, l)

joined_length : (text front last : List ℕ) → text ≡ front ++ (44 ∷ []) ++ last → length text ≡ length front + 1 + length last
joined_length text front last te =
    let e = ap length te in let l = length-append (front ++ 44 ∷ []) last in let k = length-append front (44 ∷ []) in omega (arith, e, l, k)

middle_length : (text before middle after : List ℕ) → text ≡ before ++ middle ++ after → length middle ≤ length text
middle_length text before middle after te =
    let e = ap length te in let l = length-append (before ++ middle) after in let k = length-append before middle in omega (arith, e, l, k)

rest_length : (text before rest : List ℕ) → text ≡ before ++ rest → length rest ≤ length text
rest_length text before rest te = let e = ap length te in let l = length-append before rest in omega (arith, e, l)

member_key_length : (text before key between value : List ℕ) → text ≡ before ++ key ++ between ++ (58 ∷ []) ++ value → length key ≤ length text
member_key_length text before key between value te = middle_length text before key (between ++ (58 ∷ []) ++ value) (te ∙ simp append_assoc)

-- ---- how many bytes a word has

unit_length : (text : List ℕ) (unit : ℕ) → SpellsUnit text unit → length text ≡ 6
unit_length text unit u = ap length u.4

character_length : (text : List ℕ) (c : ℕ) → SpellsCharacter text c → length (encode_utf8 c) ≤ length text
character_length text c (itself u te) = let e = ap length te in omega (arith, e)
character_length text c (escaped letter e te) =
    let long = ap length te in omega (arith, long, length-encode c, len_utf8_ascii c (escaped_low letter c e))
character_length text c (by_unit u s) = omega (arith, unit_length text c u, length-encode c, (len_utf8_bounds c).1)
character_length text c (by_pair front last high low u h v l te ce) =
    let long = ap length te in
    let joined = length-append front last in
    omega (arith, long, joined, unit_length front high u, unit_length last low v, length-encode c, (len_utf8_bounds c).1)

characters_length : (text cs : List ℕ) → SpellsCharacters text cs → length (encode_utf8_all cs) ≤ length text
characters_length text cs none = omega arith
characters_length text cs (more front last earlier c f l te ce) =
    let long = ap length te in
    let joined = length-append front last in
    let bytes = ap (λ x. length (encode_utf8_all x)) ce in
    let parts = ap length (encodes-append earlier (c ∷ [])) in
    let sum = length-append (encode_utf8_all earlier) (encode_utf8_all (c ∷ [])) in
    let one = length-append (encode_utf8 c) [] in
    omega (arith, long, joined, bytes, parts, sum, one, characters_length front earlier f, character_length last c l)

word_length : (text w : List ℕ) → SpellsWord text w → length w ≤ length text
word_length text w s =
    let bytes = ap length s.4 in
    omega (arith, bytes, bracketed_length 34 34 text s.0 s.2, characters_length s.0 s.1 s.3)

-- ---- how many elements stand in a text

one_more : {X : Type 0} (all xs : List X) (x : X) → all ≡ xs ++ x ∷ [] → length all ≡ length xs + 1
one_more all xs x e = let same = ap length e in let l = length-append xs (x ∷ []) in omega (arith, same, l)

count_items : {depth : ℕ} {text : List ℕ} {all : List Json} → SpellsItems depth text all → length all ≤ length text + 1
count_items {depth} {text} {all} (first tree s ve) = let one = ap length ve in omega (arith, one)
count_items {depth} {text} {all} (next front last earlier tree f s te ve) =
    let before = count_items f in omega (arith, before, joined_length text front last te, one_more all earlier tree ve)

count_members : {depth : ℕ} {text : List ℕ} {all : List Member} → SpellsMembers depth text all → length all ≤ length text + 1
count_members {depth} {text} {all} (first_member m s me) = let one = ap length me in omega (arith, one)
count_members {depth} {text} {all} (next_member front last earlier m f s new te me) =
    let before = count_members f in omega (arith, before, joined_length text front last te, one_more all earlier m me)

-- ---- throughout the tree

list_lengths : (most : ℕ) (items : List Json) → AllByRecursion (HasLengthsUpTo most) items → length items ≤ most → HasLengthsUpTo most (trees.List items)
list_lengths most items all few = every-List (HasLengthUpTo most) (λ m. length m.key ≤ most) items all few

object_lengths : (most : ℕ) (members : List Member) → AllByRecursion (MemberHasLengthsUpTo most) members → length members ≤ most → HasLengthsUpTo most (trees.Object members)
object_lengths most members all few = every-Object (HasLengthUpTo most) (λ m. length m.key ≤ most) members all few

mutual
  value_lengths : {depth : ℕ} {text : List ℕ} {tree : Json} → SpellsValue depth text tree → (most : ℕ) → length text ≤ most → HasLengthsUpTo most tree
  value_lengths (null te ve) most fits = subst (HasLengthsUpTo most) (sym ve) (every-Null (HasLengthUpTo most) (λ m. length m.key ≤ most) tt)
  value_lengths (truth is te ve) most fits = subst (HasLengthsUpTo most) (sym ve) (every-Truth (HasLengthUpTo most) (λ m. length m.key ≤ most) is tt)
  value_lengths {depth} {text} (number n ve) most fits = subst (HasLengthsUpTo most) (sym ve) (every-Number (HasLengthUpTo most) (λ m. length m.key ≤ most) text fits)
  value_lengths {depth} {text} (word w s ve) most fits = let long = word_length text w s in subst (HasLengthsUpTo most) (sym ve) (every-Word (HasLengthUpTo most) (λ m. length m.key ≤ most) w (omega (arith, long)))
  value_lengths (empty_list blanks less b te ve) most fits = subst (HasLengthsUpTo most) (sym ve) (list_lengths most [] tt (omega arith))
  value_lengths {depth} {text} (list inner items less s te ve) most fits =
      let long = bracketed_length 91 93 text inner te in
      subst (HasLengthsUpTo most) (sym ve) (list_lengths most items (items_lengths s most (omega (arith, long))) (omega (arith, long, count_items s)))
  value_lengths (empty_object blanks less b te ve) most fits = subst (HasLengthsUpTo most) (sym ve) (object_lengths most [] tt (omega arith))
  value_lengths {depth} {text} (object inner members less s te ve) most fits =
      let long = bracketed_length 123 125 text inner te in
      subst (HasLengthsUpTo most) (sym ve) (object_lengths most members (members_lengths s most (omega (arith, long))) (omega (arith, long, count_members s)))

  item_lengths : {depth : ℕ} {text : List ℕ} {tree : Json} → SpellsItem depth text tree → (most : ℕ) → length text ≤ most → HasLengthsUpTo most tree
  item_lengths {depth} {text} (item before value after b s a te) most fits = value_lengths s most (omega (arith, middle_length text before value after te))

  items_lengths : {depth : ℕ} {text : List ℕ} {all : List Json} → SpellsItems depth text all → (most : ℕ) → length text ≤ most → AllByRecursion (HasLengthsUpTo most) all
  items_lengths (first tree s ve) most fits = subst (AllByRecursion (HasLengthsUpTo most)) (sym ve) (item_lengths s most fits, tt)
  items_lengths {depth} {text} (next front last earlier tree f s te ve) most fits =
      let long = joined_length text front last te in
      let before = items_lengths f most (omega (arith, long)) in
      subst (AllByRecursion (HasLengthsUpTo most)) (sym ve) (with_last (HasLengthsUpTo most) earlier tree before (item_lengths s most (omega (arith, long))))

  member_lengths : {depth : ℕ} {text : List ℕ} {m : Member} → SpellsMember depth text m → (most : ℕ) → length text ≤ most → MemberHasLengthsUpTo most m
  member_lengths {depth} {text} {m} (member before key between value b k a s te) most fits =
      let long = word_length key m.key k in
      every_member (HasLengthUpTo most) (λ m. length m.key ≤ most) m (omega (arith, long, member_key_length text before key between value te))
      (item_lengths s most (omega (arith, rest_length text (before ++ key ++ between ++ 58 ∷ []) value te)))

  members_lengths : {depth : ℕ} {text : List ℕ} {all : List Member} → SpellsMembers depth text all → (most : ℕ) → length text ≤ most → AllByRecursion (MemberHasLengthsUpTo most) all
  members_lengths (first_member m s me) most fits = subst (AllByRecursion (MemberHasLengthsUpTo most)) (sym me) (member_lengths s most fits, tt)
  members_lengths {depth} {text} (next_member front last earlier m f s new te me) most fits =
      let long = joined_length text front last te in
      let before = members_lengths f most (omega (arith, long)) in
      subst (AllByRecursion (MemberHasLengthsUpTo most)) (sym me) (with_last (MemberHasLengthsUpTo most) earlier m before (member_lengths s most (omega (arith, long))))

pub spelled_lengths : (text : List ℕ) (tree : Json) → Spells text tree → HasLengthsUpTo (length text) tree
spelled_lengths text tree s = item_lengths s (length text) (omega arith)
