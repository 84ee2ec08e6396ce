-- what a look for a key finds, after one more member
use Rattle.std.proofs.Common.{◌≡◌, ℕ, zero, suc, List, [], ◌∷◌, ◌++◌, length, sym, ◌∙◌, ap, refl, Bool, true, false, cond, ◌||◌, eqb, Option, Some, None, bytes_eq}
use Rattle.std.specs.Prelude.{is_none}
use Rattle.std.specs.BTreeMap as map
use Rattle.std.specs.BTreeSet.{UpdatesBy, contains_text}
use Rattle.std.specs.Cmp.Lexicographic.{slice_cmp}
use Rattle.std.specs.Option.{option_map_or}
use Rattle.std.specs.Ordering.{nat_cmp}
use Rattle.std.specs.String.{string_bytes, string_cmp}
use Rattle.std.proofs.lemmas.Bool.{eqb-true, eq-eqb}
use Rattle.std.proofs.lemmas.Map.Text.{btree_set_updates_text}
use Rattle.std.proofs.lemmas.Slice.Eq.{bytes_eq-Decides}
use Rattle.json_tree.specs.declared.tree.Member.{Member}
use Rattle.json_read.specs.Fnv.{fnv_1a}
use Rattle.json_read.specs.Keys.{finds, stands_at}
use Rattle.json_read.specs.declared.key_index.KeyIndex.{KeyIndex}

-- a key that the last member doesn't have stands where it stood
stands_before : (before : List Member) (last : Member) (place : ℕ) (key : List ℕ) → bytes_eq last.key key ≡ false → stands_at (before ++ last ∷ []) place key ≡ stands_at before place key
stands_before [] last zero key other_key = other_key
stands_before [] last (suc place) key other_key = refl
stands_before (m ∷ before) last zero key other_key = refl
stands_before (m ∷ before) last (suc place) key other_key = stands_before before last place key other_key

stands_last : (before : List Member) (last : Member) (key : List ℕ) → stands_at (before ++ last ∷ []) (length before) key ≡ bytes_eq last.key key
stands_last [] last key = refl
stands_last (m ∷ before) last key = stands_last before last key

same_elsewhere : (before : List Member) (last : Member) (key : List ℕ) (place : Option ℕ) → bytes_eq last.key key ≡ false
    → option_map_or (λ p. stands_at (before ++ last ∷ []) p key) place false ≡ option_map_or (λ p. stands_at before p key) place false
same_elsewhere before last key None other_key = refl
same_elsewhere before last key (Some place) other_key = stands_before before last place key other_key

or_false : (a : Bool) → a ≡ (a || false)
or_false true = refl
or_false false = refl

or_true : (a : Bool) → (a || true) ≡ true
or_true true = refl
or_true false = refl

-- where `hit` says that the key has the hash of the last member's, which had no place
one_more_place : (before : List Member) (last : Member) (key : List ℕ) (place after : Option ℕ) (hit other : Bool) → after ≡ cond hit (Some (length before)) place → (hit ≡ true → place ≡ None) → (last.key ≡ key → hit ≡ true)
    → (option_map_or (λ p. stands_at (before ++ last ∷ []) p key) after false || other) ≡ ((option_map_or (λ p. stands_at before p key) place false || other) || bytes_eq last.key key)
one_more_place before last key place after hit other put was_free same_hash = by_test (bytes_eq last.key key) refl
  where
    found : bytes_eq last.key key ≡ true → after ≡ Some (length before)
    found its_key = put ∙ ap (λ h. cond h (Some (length before)) place) (same_hash ((bytes_eq-Decides last.key key).0 its_key))

    past : (h : Bool) → (h ≡ true → place ≡ None) → bytes_eq last.key key ≡ false
        → option_map_or (λ p. stands_at (before ++ last ∷ []) p key) (cond h (Some (length before)) place) false ≡ option_map_or (λ p. stands_at before p key) place false
    past true was_free other_key = stands_last before last key ∙ other_key ∙ ap (λ o. option_map_or (λ p. stands_at before p key) o false) (sym (was_free refl))
    past false was_free other_key = same_elsewhere before last key place other_key

    by_test : (b : Bool) → bytes_eq last.key key ≡ b
        → (option_map_or (λ p. stands_at (before ++ last ∷ []) p key) after false || other) ≡ ((option_map_or (λ p. stands_at before p key) place false || other) || bytes_eq last.key key)
    by_test true its_key =
        ap (λ o. option_map_or (λ p. stands_at (before ++ last ∷ []) p key) o false || other) (found its_key)
        ∙ ap (λ s. s || other) (stands_last before last key ∙ its_key)
        ∙ sym (or_true (option_map_or (λ p. stands_at before p key) place false || other))
        ∙ ap (λ b. (option_map_or (λ p. stands_at before p key) place false || other) || b) (sym its_key)
    by_test false other_key =
        ap (λ o. option_map_or (λ p. stands_at (before ++ last ∷ []) p key) o false || other) put
        ∙ ap (λ s. s || other) (past hit was_free other_key)
        ∙ or_false (option_map_or (λ p. stands_at before p key) place false || other)
        ∙ ap (λ b. (option_map_or (λ p. stands_at before p key) place false || other) || b) (sym other_key)

one_more_other : (before : List Member) (last : Member) (key : List ℕ) (place : Option ℕ) (other after : Bool) → after ≡ cond (bytes_eq last.key key) true other
    → (option_map_or (λ p. stands_at (before ++ last ∷ []) p key) place false || after) ≡ ((option_map_or (λ p. stands_at before p key) place false || other) || bytes_eq last.key key)
one_more_other before last key place other after put = by_test (bytes_eq last.key key) refl
  where
    by_test : (b : Bool) → bytes_eq last.key key ≡ b
        → (option_map_or (λ p. stands_at (before ++ last ∷ []) p key) place false || after) ≡ ((option_map_or (λ p. stands_at before p key) place false || other) || bytes_eq last.key key)
    by_test true its_key =
        ap (λ a. option_map_or (λ p. stands_at (before ++ last ∷ []) p key) place false || a) (put ∙ ap (λ b. cond b true other) its_key)
        ∙ or_true (option_map_or (λ p. stands_at (before ++ last ∷ []) p key) place false)
        ∙ sym (or_true (option_map_or (λ p. stands_at before p key) place false || other))
        ∙ ap (λ b. (option_map_or (λ p. stands_at before p key) place false || other) || b) (sym its_key)
    by_test false other_key =
        ap (λ a. option_map_or (λ p. stands_at (before ++ last ∷ []) p key) place false || a) (put ∙ ap (λ b. cond b true other) other_key)
        ∙ ap (λ s. s || other) (same_elsewhere before last key place other_key)
        ∙ or_false (option_map_or (λ p. stands_at before p key) place false || other)
        ∙ ap (λ b. (option_map_or (λ p. stands_at before p key) place false || other) || b) (sym other_key)

is_none-None : (place : Option ℕ) → is_none place ≡ true → place ≡ None
is_none-None None free = refl
is_none-None (Some place) free = cc

-- the last member's hash had no place, and has its place now
pub placed : (index after : KeyIndex) (before : List Member) (last : Member) (hash : ℕ) → hash ≡ fnv_1a last.key → is_none (map.get nat_cmp index.places hash) ≡ true
    → ((other : ℕ) → map.get nat_cmp after.places other ≡ cond (eqb other hash) (Some (length before)) (map.get nat_cmp index.places other)) → after.others ≡ index.others
    → (key : List ℕ) → finds after (before ++ last ∷ []) key ≡ (finds index before key || bytes_eq last.key key)
placed index after before last hash h free put kept key =
    ap (λ others. option_map_or (λ p. stands_at (before ++ last ∷ []) p key) (map.get nat_cmp after.places (fnv_1a key)) false || contains_text others key) kept
    ∙ one_more_place before last key (map.get nat_cmp index.places (fnv_1a key)) (map.get nat_cmp after.places (fnv_1a key)) (eqb (fnv_1a key) hash) (contains_text index.others key)
    (put (fnv_1a key))
    (λ hit. ap (map.get nat_cmp index.places) (eqb-true (fnv_1a key) hash hit) ∙ is_none-None (map.get nat_cmp index.places hash) free)
    (λ e. eq-eqb (fnv_1a key) hash (ap fnv_1a (sym e) ∙ sym h))

-- the places are as they were, and the last member's key is one of the others now
pub put_aside : (index after : KeyIndex) (before : List Member) (last : Member) → ((other : ℕ) → map.get nat_cmp after.places other ≡ map.get nat_cmp index.places other)
    → UpdatesBy string_cmp (λ k. slice_cmp nat_cmp last.key (string_bytes k)) index.others after.others true
    → (key : List ℕ) → finds after (before ++ last ∷ []) key ≡ (finds index before key || bytes_eq last.key key)
put_aside index after before last kept updates key =
    ap (λ place. option_map_or (λ p. stands_at (before ++ last ∷ []) p key) place false || contains_text after.others key) (kept (fnv_1a key))
    ∙ one_more_other before last key (map.get nat_cmp index.places (fnv_1a key)) (contains_text index.others key) (contains_text after.others key)
    (btree_set_updates_text last.key index.others after.others true updates key)

pub looked_up : (index : KeyIndex) (members : List Member) (key : List ℕ) (hash : ℕ) (place : Option ℕ) → hash ≡ fnv_1a key → place ≡ map.get nat_cmp index.places hash
    → (option_map_or (λ p. stands_at members p key) place false || contains_text index.others key) ≡ finds index members key
looked_up index members key hash place h is = ap (λ o. option_map_or (λ p. stands_at members p key) o false || contains_text index.others key) (is ∙ ap (map.get nat_cmp index.places) h)
