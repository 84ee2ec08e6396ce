-- the printed form of a proper tree spells that tree
use Rattle.std.proofs.Common.{◌≡◌, ◌≢◌, inl, inr, ℕ, suc, ◌+◌, ◌/◌, ◌%◌, ◌<◌, ◌≤◌, List, [], ◌∷◌, ◌++◌, map, refl, sym, ◌∙◌, ap, subst, append_assoc, arith, true, encode_utf8, IsUtf8, lit<}
use Rattle.std.specs.Char.{IsScalar, digit_char, digit_value}
use Rattle.std.specs.List.{flat_map, AllByRecursion}
use Rattle.std.specs.Str.{chars}
use Rattle.std.proofs.lemmas.List.{append-nil, map-append}
use Rattle.std.proofs.lemmas.Bool.{cases_eq, cases_lt, and_parts}
use Rattle.std.proofs.lemmas.Bool.Decides.{nat_tests}
use Rattle.std.proofs.lemmas.Str.{encodes-chars, scalars-chars, digit_value-digit_char}
use lib.Utf8.{scalars}
use Rattle.json_tree.specs.Number.{IsNumber}
use Rattle.json_tree.specs.PrintedForm.{printed_form, printed_member, printed_word, printed_character, printed_control}
use Rattle.json_tree.specs.Spells.{Spells, SpellsValue, SpellsItem, SpellsItems, SpellsMember, SpellsMembers, null, truth, number, word, empty_list, list, empty_object, object, item, first, next, member, first_member, next_member}
use Rattle.json_tree.specs.Word.{IsHexadecimal, SpellsUnit, SpellsCharacter, itself, escaped, by_unit, SpellsCharacters, none, more, SpellsWord}
use Rattle.json_tree.specs.Tree.{keys, HasKey, AreDistinct, largest, nesting, nesting_of_member, HasDistinctKeys, HasDistinctKeysThroughout, MemberHasDistinctKeys, HasValidText, HasValidTexts, MemberHasValidTexts, IsProper}
use Rattle.json_tree.specs.declared.tree.Json.{Json, Json-F, Number}
use Rattle.json_tree.specs.declared.tree.Json.TheFolds.{ind-Json, map-Json}
use Rattle.json_tree.specs.declared.tree.Json.TheViews as trees
use Rattle.json_tree.specs.declared.tree.Json.TheOpen as layers
use Rattle.json_tree.specs.declared.tree.Member.{Member}
use Rattle.json_tree.proofs.Distinct.{new_word}
use Rattle.json_tree.proofs.Joined.{joined}
use Rattle.json_tree.proofs.Trees.{printed_form-Null, printed_form-Truth, printed_form-Number, printed_form-Word, printed_form-List, printed_form-Object, printed_member-is, nesting-List, nesting-Object, nesting_of_member-is, every_items, every_members, every_keys, every_number, every_word, every_key, every_value}

-- ---- words

hexadecimal : (d : ℕ) → d < 16 → IsHexadecimal (digit_char d)
hexadecimal d less = rw (digit_value-digit_char d (omega arith)) less

control : (c : ℕ) → c < 32 → SpellsUnit (printed_control c) c
control c less =
    let high : c / 16 < 16 = omega arith in
    let low : c % 16 < 16 = omega arith in
    let h : digit_value (digit_char (c / 16)) ≡ c / 16 = digit_value-digit_char (c / 16) (omega arith) in
    let l : digit_value (digit_char (c % 16)) ≡ c % 16 = digit_value-digit_char (c % 16) (omega arith) in
    (48, 48, digit_char (c / 16), digit_char (c % 16), refl, lit< tt, lit< tt, hexadecimal (c / 16) high, hexadecimal (c % 16) low, rw (h, l) (omega arith))

as_control : (c : ℕ) → c ≢ 34 → c ≢ 92 → c ≢ 8 → c ≢ 12 → c ≢ 10 → c ≢ 13 → c ≢ 9 → c < 32 → printed_character c ≡ printed_control c
as_control c n1 n2 n3 n4 n5 n6 n7 less = grind (arith, nat_tests)

as_itself : (c : ℕ) → c ≢ 34 → c ≢ 92 → 32 ≤ c → printed_character c ≡ encode_utf8 c
as_itself c n1 n2 least = grind (arith, nat_tests)

character : (c : ℕ) → IsScalar c → SpellsCharacter (printed_character c) c
character c s =
    elim (cases_eq c 34) [
      | inl e ↦ rw e (escaped 34 refl refl)
      | inr n1 ↦
          elim (cases_eq c 92) [
            | inl e ↦ rw e (escaped 92 refl refl)
            | inr n2 ↦
                elim (cases_eq c 8) [
                  | inl e ↦ rw e (escaped 98 refl refl)
                  | inr n3 ↦
                      elim (cases_eq c 12) [
                        | inl e ↦ rw e (escaped 102 refl refl)
                        | inr n4 ↦
                            elim (cases_eq c 10) [
                              | inl e ↦ rw e (escaped 110 refl refl)
                              | inr n5 ↦
                                  elim (cases_eq c 13) [
                                    | inl e ↦ rw e (escaped 114 refl refl)
                                    | inr n6 ↦
                                        elim (cases_eq c 9) [
                                          | inl e ↦ rw e (escaped 116 refl refl)
                                          | inr n7 ↦
                                              elim (cases_lt c 32) [
                                                | inl less ↦ subst (λ t. SpellsCharacter t c) (sym (as_control c n1 n2 n3 n4 n5 n6 n7 less)) (by_unit (control c less) s)
                                                | inr least ↦ itself (record { scalar = s; no_control = least; no_quote = n1; no_backslash = n2 }) (as_itself c n1 n2 least)
                                              ]
                                        ]
                                  ]
                            ]
                      ]
                ]
          ]
    ]

characters_on : (front : List ℕ) (earlier later : List ℕ) → SpellsCharacters front earlier → AllByRecursion IsScalar later
    → SpellsCharacters (front ++ flat_map printed_character later) (earlier ++ later)
characters_on front earlier [] s all = rw (append-nil front, append-nil earlier) s
characters_on front earlier (c ∷ later) s all =
    let one = more front (printed_character c) earlier c s (character c all.0) refl refl in
    let rest = characters_on (front ++ printed_character c) (earlier ++ c ∷ []) later one all.1 in
    subst (λ t. SpellsCharacters t (earlier ++ c ∷ later)) (append_assoc front (printed_character c) (flat_map printed_character later))
    (subst (SpellsCharacters ((front ++ printed_character c) ++ flat_map printed_character later)) (append_assoc earlier (c ∷ []) later) rest)

all_scalar : (cs : List ℕ) → scalars cs ≡ true → AllByRecursion IsScalar cs
all_scalar [] e = tt
all_scalar (c ∷ cs) e = let parts = and_parts _ _ e in (parts.0, all_scalar cs parts.1)

pub spells_word : (w : List ℕ) → IsUtf8 w → SpellsWord (printed_word w) w
spells_word w u = (flat_map printed_character (chars w), chars w, refl, characters_on [] [] (chars w) none (all_scalar (chars w) (scalars-chars w u)), sym (encodes-chars w u))

-- ---- lists and objects

bare : (depth : ℕ) (text : List ℕ) (tree : Json) → SpellsValue depth text tree → SpellsItem depth text tree
bare depth text tree s = item [] text [] tt s tt (sym (append-nil text))

new_key : (earlier : List Member) (m : Member) (later : List Member) → AreDistinct (keys (earlier ++ m ∷ later)) → ¬ HasKey earlier m.key
new_key earlier m later d = new_word (keys earlier) (keys later) m.key (subst AreDistinct (map-append (λ m. m.key) earlier (m ∷ later)) d)

-- what is to show of a value and of a member, at each depth
abbrev ValueSpells : Json → Type 0
ValueSpells tree = (depth : ℕ) → HasValidTexts tree → HasDistinctKeysThroughout tree → depth + nesting tree ≤ 64 → SpellsValue depth (printed_form tree) tree

abbrev MemberSpells : Member → Type 0
MemberSpells m = (depth : ℕ) → MemberHasValidTexts m → MemberHasDistinctKeys m → depth + nesting_of_member m ≤ 64 → SpellsMember depth (printed_member m) m

module _ (depth : ℕ) where
  abbrev FitItems : List Json → Type 0
  FitItems items = AllByRecursion HasValidTexts items × AllByRecursion HasDistinctKeysThroughout items × (depth + largest (map nesting items) ≤ 64)

  items_on : (front : List ℕ) (earlier : List Json) (later : List ((t : Json) × ValueSpells t)) → SpellsItems depth front earlier → FitItems (map (λ e. e.0) later)
      → SpellsItems depth (front ++ flat_map (λ y. 44 ∷ y) (map printed_form (map (λ e. e.0) later))) (earlier ++ map (λ e. e.0) later)
  items_on front earlier [] s fit = rw (append-nil front, append-nil earlier) s
  items_on front earlier (e ∷ later) s fit =
      let one = next front (printed_form e.0) earlier e.0 s (bare depth (printed_form e.0) e.0 (e.1 depth fit.0.0 fit.1.0 (omega (arith, fit.2)))) refl refl in
      let rest = items_on (front ++ (44 ∷ []) ++ printed_form e.0) (earlier ++ e.0 ∷ []) later one (fit.0.1, fit.1.1, omega (arith, fit.2)) in
      simp append_assoc at rest

  abbrev FitMembers : List Member → Type 0
  FitMembers members = AllByRecursion MemberHasValidTexts members × AllByRecursion MemberHasDistinctKeys members × (depth + largest (map nesting_of_member members) ≤ 64)

  members_on : (front : List ℕ) (earlier : List Member) (later : List ((m : Member) × MemberSpells m)) → SpellsMembers depth front earlier → FitMembers (map (λ e. e.0) later)
      → AreDistinct (keys (earlier ++ map (λ e. e.0) later))
      → SpellsMembers depth (front ++ flat_map (λ y. 44 ∷ y) (map printed_member (map (λ e. e.0) later))) (earlier ++ map (λ e. e.0) later)
  members_on front earlier [] s fit d = rw (append-nil front, append-nil earlier) s
  members_on front earlier (e ∷ later) s fit d =
      let one = next_member front (printed_member e.0) earlier e.0 s (e.1 depth fit.0.0 fit.1.0 (omega (arith, fit.2))) (new_key earlier e.0 (map (λ e. e.0) later) d) refl refl in
      let rest = members_on (front ++ (44 ∷ []) ++ printed_member e.0) (earlier ++ e.0 ∷ []) later one (fit.0.1, fit.1.1, omega (arith, fit.2))
      (subst (λ l. AreDistinct (keys l)) (sym (append_assoc earlier (e.0 ∷ []) (map (λ e. e.0) later))) d) in
      simp append_assoc at rest

list_spells : (items : List ((t : Json) × ValueSpells t)) → ValueSpells (trees.List (map (λ e. e.0) items))
list_spells [] depth t d n = empty_list [] (let e = nesting-List [] in omega arith) tt (printed_form-List []) refl
list_spells (e ∷ items) depth t d n =
    let all = e.0 ∷ map (λ e. e.0) items in
    let fit : depth + suc (largest (map nesting all)) ≤ 64 = subst (λ k. depth + k ≤ 64) (nesting-List all) n in
    let texts = every_items HasValidText (λ m. IsUtf8 m.key) all t in
    let distinct = every_items HasDistinctKeys (λ m. Unit {0}) all d in
    let first_item = first {depth = suc depth} e.0 (bare (suc depth) (printed_form e.0) e.0 (e.1 (suc depth) texts.0 distinct.0 (omega (arith, fit)))) refl in
    let inner = items_on (suc depth) (printed_form e.0) (e.0 ∷ []) items first_item (texts.1, distinct.1, omega (arith, fit)) in
    list (printed_form e.0 ++ flat_map (λ y. 44 ∷ y) (map printed_form (map (λ e. e.0) items))) all (omega (arith, fit)) inner
    (printed_form-List all ∙ ap (λ x. (91 ∷ []) ++ x ++ (93 ∷ [])) (joined (printed_form e.0) (map printed_form (map (λ e. e.0) items)))) refl

object_spells : (members : List ((m : Member) × MemberSpells m)) → ValueSpells (trees.Object (map (λ e. e.0) members))
object_spells [] depth t d n = empty_object [] (let e = nesting-Object [] in omega arith) tt (printed_form-Object []) refl
object_spells (e ∷ members) depth t d n =
    let all = e.0 ∷ map (λ e. e.0) members in
    let fit : depth + suc (largest (map nesting_of_member all)) ≤ 64 = subst (λ k. depth + k ≤ 64) (nesting-Object all) n in
    let texts = every_members HasValidText (λ m. IsUtf8 m.key) all t in
    let distinct = every_members HasDistinctKeys (λ m. Unit {0}) all d in
    let one = first_member {depth = suc depth} e.0 (e.1 (suc depth) texts.0 distinct.0 (omega (arith, fit))) refl in
    let inner = members_on (suc depth) (printed_member e.0) (e.0 ∷ []) members one (texts.1, distinct.1, omega (arith, fit)) (every_keys HasDistinctKeys (λ m. Unit {0}) all d) in
    object (printed_member e.0 ++ flat_map (λ y. 44 ∷ y) (map printed_member (map (λ e. e.0) members))) all (omega (arith, fit)) inner
    (printed_form-Object all ∙ ap (λ x. (123 ∷ []) ++ x ++ (125 ∷ [])) (joined (printed_member e.0) (map printed_member (map (λ e. e.0) members)))) refl

member_spells : (m : Member) → ValueSpells m.value → MemberSpells m
member_spells m v depth t d n =
    let key = every_key HasValidText (λ m. IsUtf8 m.key) m t in
    let value = v depth (every_value HasValidText (λ m. IsUtf8 m.key) m t) (every_value HasDistinctKeys (λ m. Unit {0}) m d) (subst (λ k. depth + k ≤ 64) (nesting_of_member-is m) n) in
    member [] (printed_word m.key) [] (printed_form m.value) tt (spells_word m.key key) tt (bare depth (printed_form m.value) m.value value)
    (printed_member-is m ∙ simp append_assoc)

layer_spells : (layer : Json-F ((t : Json) × ValueSpells t) ((m : Member) × MemberSpells m))
    → ValueSpells (trees.roll-Json (map-Json ((t : Json) × ValueSpells t) ((m : Member) × MemberSpells m) Json Member (λ e. e.0) (λ e. e.0) layer))
layer_spells layers.Null = subst ValueSpells (sym trees.rolls-Null) (λ depth t d n. null printed_form-Null refl)
layer_spells (layers.Truth is) = subst ValueSpells (sym (trees.rolls-Truth is)) (λ depth t d n. truth is (printed_form-Truth is) refl)
layer_spells (layers.Number text) = subst ValueSpells (sym (trees.rolls-Number text)) (λ depth t d n.
    let same = printed_form-Number text in
    number (subst IsNumber (sym same) (every_number HasValidText (λ m. IsUtf8 m.key) text t)) (ap Number (sym same)))
layer_spells (layers.Word w) = subst ValueSpells (sym (trees.rolls-Word w)) (λ depth t d n.
    let same = printed_form-Word w in
    word w (subst (λ text. SpellsWord text w) (sym same) (spells_word w (every_word HasValidText (λ m. IsUtf8 m.key) w t))) refl)
layer_spells (layers.List items) = subst ValueSpells (sym (trees.rolls-List (map (λ e. e.0) items))) (list_spells items)
layer_spells (layers.Object members) = subst ValueSpells (sym (trees.rolls-Object (map (λ e. e.0) members))) (object_spells members)

value_spells : (tree : Json) → ValueSpells tree
value_spells = ind-Json ValueSpells MemberSpells
    (λ x y is. subst (λ x. ValueSpells (trees.roll-Json x)) is (layer_spells y))
    (λ x y is. subst (λ x. MemberSpells (trees.roll-Member x)) is (member_spells (record { key = y.key; value = y.value.0 }) y.value.1))

pub printed_spells : (tree : Json) → HasValidTexts tree → IsProper tree → Spells (printed_form tree) tree
printed_spells tree t p = bare 0 (printed_form tree) tree (value_spells tree 0 t p.distinct (omega (arith, p.nested)))
