-- the trees that texts spell are proper, and their texts are numbers and UTF-8
use Rattle.std.proofs.Common.{◌≡◌, ℕ, ◌+◌, ◌-◌, ◌*◌, ◌<◌, ◌≤◌, List, [], ◌∷◌, ◌++◌, refl, sym, subst, arith, ◌⊎◌, inl, inr, Some, true, IsUtf8}
use Rattle.std.specs.Char.{IsScalar}
use Rattle.std.specs.List.{AllByRecursion}
use Rattle.std.proofs.lemmas.Bool.{and_parts}
use Rattle.std.proofs.lemmas.Bool.Decides.{nat_tests}
use Rattle.std.proofs.lemmas.List.{map-append}
use lib.Utf8.{scalar, scalars}
use Rattle.json_tree.specs.Spells.{Spells, SpellsValue, SpellsItem, SpellsItems, SpellsMember, SpellsMembers, null, truth, number, word, empty_list, list, empty_object, object, item, first, next, member, first_member, next_member}
use Rattle.json_tree.specs.Word.{IsHighSurrogate, IsLowSurrogate, escaped_by, SpellsCharacter, itself, escaped, by_unit, by_pair, SpellsCharacters, none, more, SpellsWord}
use Rattle.json_tree.specs.Tree.{keys, HasKey, AreDistinct, HasValidText, HasValidTexts, MemberHasValidTexts, IsProper, IsProperWithin}
use Rattle.json_tree.specs.declared.tree.Json.{Json}
use Rattle.json_tree.specs.declared.tree.Json.TheViews as trees
use Rattle.json_tree.specs.declared.tree.Member.{Member}
use Rattle.json_tree.proofs.Distinct.{distinct_more}
use Rattle.json_tree.proofs.Joined.{with_last}
use Rattle.json_tree.proofs.ProperTrees.{proper-Null, proper-Truth, proper-Number, proper-Word, decided-List, decided-Object}
use Rattle.json_tree.proofs.Trees.{every-Null, every-Truth, every-Number, every-Word, every-List, every-Object, every_member}

-- ---- words are UTF-8

scalar_in : (c : ℕ) → (c < 55296) ⊎ ((57344 ≤ c) × (c < 1114112)) → IsScalar c
scalar_in c h = grind (arith, nat_tests)

pub escaped_low : (letter c : ℕ) → escaped_by letter ≡ Some c → c < 128
escaped_low letter c e = grind (arith, nat_tests)

pair_scalar : (high low : ℕ) → IsHighSurrogate high → IsLowSurrogate low → IsScalar (65536 + (high - 55296) * 1024 + (low - 56320))
pair_scalar high low h l =
    let c = 65536 + (high - 55296) * 1024 + (low - 56320) in
    let least : 57344 ≤ c = omega arith in
    let most : c < 1114112 = omega arith in
    scalar_in c (inr (least, most))

character_scalar : (text : List ℕ) (c : ℕ) → SpellsCharacter text c → IsScalar c
character_scalar text c (itself u e) = u.scalar
character_scalar text c (escaped letter e te) = scalar_in c (inl (omega (arith, escaped_low letter c e)))
character_scalar text c (by_unit u s) = s
character_scalar text c (by_pair front last high low u h v l te ce) = subst IsScalar (sym ce) (pair_scalar high low h l)

scalars_snoc : (cs : List ℕ) (c : ℕ) → scalars cs ≡ true → IsScalar c → scalars (cs ++ c ∷ []) ≡ true
scalars_snoc [] c all s = rw s refl
scalars_snoc (x ∷ cs) c all s = let parts = and_parts (scalar x) (scalars cs) all in rw (parts.0, scalars_snoc cs c parts.1 s) refl

all_scalars : (text cs : List ℕ) → SpellsCharacters text cs → scalars cs ≡ true
all_scalars text cs none = refl
all_scalars text cs (more front last earlier c f l te ce) = subst (λ x. scalars x ≡ true) (sym ce) (scalars_snoc earlier c (all_scalars front earlier f) (character_scalar last c l))

word_utf8 : (text w : List ℕ) → SpellsWord text w → IsUtf8 w
word_utf8 text w s = (s.1, (all_scalars s.0 s.1 s.3, sym s.4))

-- ---- lists and objects

list_proper : (levels : ℕ) (items : List Json) → 0 < levels → AllByRecursion (IsProperWithin (levels - 1)) items → IsProperWithin levels (trees.List items)
list_proper levels items some all = (decided-List levels items true some ((λ yes. all), (λ all. refl))).0 refl

object_proper : (levels : ℕ) (members : List Member) → 0 < levels → AreDistinct (keys members) × AllByRecursion (λ m. IsProperWithin (levels - 1) m.value) members → IsProperWithin levels (trees.Object members)
object_proper levels members some all = (decided-Object levels members true some ((λ yes. all), (λ all. refl))).0 refl

no_keys : AreDistinct []
no_keys i j d less within e = omega arith

keys_more : (members : List Member) (m : Member) → AreDistinct (keys members) → ¬ HasKey members m.key → AreDistinct (keys (members ++ m ∷ []))
keys_more members m d new = subst AreDistinct (sym (map-append (λ m. m.key) members (m ∷ []))) (distinct_more (keys members) m.key d new)

-- a tree that may nest so deep
abbrev Fine : ℕ → Json → Type 0
Fine levels tree = IsProperWithin levels tree × HasValidTexts tree

abbrev FineItems : ℕ → List Json → Type 0
FineItems levels items = AllByRecursion (IsProperWithin levels) items × AllByRecursion HasValidTexts items

abbrev FineMember : ℕ → Member → Type 0
FineMember levels m = IsProperWithin levels m.value × MemberHasValidTexts m

abbrev FineMembers : ℕ → List Member → Type 0
FineMembers levels members = (AreDistinct (keys members) × AllByRecursion (λ m. IsProperWithin levels m.value) members) × AllByRecursion MemberHasValidTexts members

fine_list : (levels : ℕ) (items : List Json) → 0 < levels → FineItems (levels - 1) items → Fine levels (trees.List items)
fine_list levels items some f = (list_proper levels items some f.0, every-List HasValidText (λ m. IsUtf8 m.key) items f.1 tt)

fine_object : (levels : ℕ) (members : List Member) → 0 < levels → FineMembers (levels - 1) members → Fine levels (trees.Object members)
fine_object levels members some f = (object_proper levels members some f.0, every-Object HasValidText (λ m. IsUtf8 m.key) members f.1 tt)

mutual
  value_fine : {depth : ℕ} {text : List ℕ} {tree : Json} → SpellsValue depth text tree → (levels : ℕ) → depth + levels ≡ 64 → Fine levels tree
  value_fine (null te ve) levels sum = subst (Fine levels) (sym ve) (proper-Null levels, every-Null HasValidText (λ m. IsUtf8 m.key) tt)
  value_fine (truth is te ve) levels sum = subst (Fine levels) (sym ve) (proper-Truth levels is, every-Truth HasValidText (λ m. IsUtf8 m.key) is tt)
  value_fine {depth} {text} (number n ve) levels sum = subst (Fine levels) (sym ve) (proper-Number levels text, every-Number HasValidText (λ m. IsUtf8 m.key) text n)
  value_fine {depth} {text} (word w s ve) levels sum = subst (Fine levels) (sym ve) (proper-Word levels w, every-Word HasValidText (λ m. IsUtf8 m.key) w (word_utf8 text w s))
  value_fine (empty_list blanks less b te ve) levels sum = subst (Fine levels) (sym ve) (fine_list levels [] (omega arith) (tt, tt))
  value_fine (list inner items less s te ve) levels sum = subst (Fine levels) (sym ve) (fine_list levels items (omega arith) (items_fine s (levels - 1) (omega arith)))
  value_fine (empty_object blanks less b te ve) levels sum = subst (Fine levels) (sym ve) (fine_object levels [] (omega arith) ((no_keys, tt), tt))
  value_fine (object inner members less s te ve) levels sum = subst (Fine levels) (sym ve) (fine_object levels members (omega arith) (members_fine s (levels - 1) (omega arith)))

  item_fine : {depth : ℕ} {text : List ℕ} {tree : Json} → SpellsItem depth text tree → (levels : ℕ) → depth + levels ≡ 64 → Fine levels tree
  item_fine (item before value after b s a te) levels sum = value_fine s levels sum

  items_fine : {depth : ℕ} {text : List ℕ} {all : List Json} → SpellsItems depth text all → (levels : ℕ) → depth + levels ≡ 64 → FineItems levels all
  items_fine (first tree s ve) levels sum = let one = item_fine s levels sum in subst (FineItems levels) (sym ve) ((one.0, tt), (one.1, tt))
  items_fine (next front last earlier tree f s te ve) levels sum =
      let before = items_fine f levels sum in
      let one = item_fine s levels sum in
      subst (FineItems levels) (sym ve) (with_last (IsProperWithin levels) earlier tree before.0 one.0, with_last HasValidTexts earlier tree before.1 one.1)

  member_fine : {depth : ℕ} {text : List ℕ} {m : Member} → SpellsMember depth text m → (levels : ℕ) → depth + levels ≡ 64 → FineMember levels m
  member_fine {depth} {text} {m} (member before key between value b k a s te) levels sum =
      let one = item_fine s levels sum in
      (one.0, every_member HasValidText (λ m. IsUtf8 m.key) m (word_utf8 key m.key k) one.1)

  members_fine : {depth : ℕ} {text : List ℕ} {all : List Member} → SpellsMembers depth text all → (levels : ℕ) → depth + levels ≡ 64 → FineMembers levels all
  members_fine (first_member m s me) levels sum =
      let one = member_fine s levels sum in
      subst (FineMembers levels) (sym me) ((keys_more [] m no_keys (λ has. omega (arith, has.1)), (one.0, tt)), (one.1, tt))
  members_fine (next_member front last earlier m f s new te me) levels sum =
      let before = members_fine f levels sum in
      let one = member_fine s levels sum in
      subst (FineMembers levels) (sym me) (
        (keys_more earlier m before.0.0 new, with_last (λ m. IsProperWithin levels m.value) earlier m before.0.1 one.0),
        with_last MemberHasValidTexts earlier m before.1 one.1,
      )

pub spelled : (text : List ℕ) (tree : Json) → Spells text tree → IsProper tree × HasValidTexts tree
spelled text tree s = item_fine s 64 refl
