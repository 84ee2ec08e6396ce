-- when a tree is proper, by the values in it
use Rattle.std.proofs.Common.{ℕ, ◌-◌, ◌<◌, ◌≤◌, List, [], ◌∷◌, map, arith, Bool, IsTrue}
use Rattle.std.specs.Prelude.{◌↔◌}
use Rattle.std.specs.List.{AllByRecursion}
use Rattle.json_tree.specs.Tree.{keys, AreDistinct, largest, nesting, nesting_of_member, HasDistinctKeys, HasDistinctKeysThroughout, MemberHasDistinctKeys, IsProperWithin}
use Rattle.json_tree.specs.declared.tree.Json.{Json, Null, Truth, Number, Word}
use Rattle.json_tree.specs.declared.tree.Json.TheViews as trees
use Rattle.json_tree.specs.declared.tree.Member.{Member}
use Rattle.json_tree.proofs.Trees.{nesting-Null, nesting-Truth, nesting-Number, nesting-Word, nesting-List, nesting-Object, nesting_of_member-is, every-Null, every-Truth, every-Number, every-Word, every-List, every-Object, every_items, every_members, every_keys, every_member, every_value}

pub proper-Null : (levels : ℕ) → IsProperWithin levels Null
proper-Null levels = record { nested = omega (arith, nesting-Null); distinct = every-Null HasDistinctKeys (λ m. Unit {0}) tt }

pub proper-Truth : (levels : ℕ) (is : Bool) → IsProperWithin levels (Truth is)
proper-Truth levels is = record { nested = omega (arith, nesting-Truth is); distinct = every-Truth HasDistinctKeys (λ m. Unit {0}) is tt }

pub proper-Number : (levels : ℕ) (text : List ℕ) → IsProperWithin levels (Number text)
proper-Number levels text = record { nested = omega (arith, nesting-Number text); distinct = every-Number HasDistinctKeys (λ m. Unit {0}) text tt }

pub proper-Word : (levels : ℕ) (word : List ℕ) → IsProperWithin levels (Word word)
proper-Word levels word = record { nested = omega (arith, nesting-Word word); distinct = every-Word HasDistinctKeys (λ m. Unit {0}) word tt }

-- ---- lists

nested_items : (n : ℕ) (items : List Json) → AllByRecursion (IsProperWithin n) items → largest (map nesting items) ≤ n
nested_items n [] all = omega arith
nested_items n (tree ∷ items) all = omega (arith, all.0.nested, nested_items n items all.1)

distinct_items : (n : ℕ) (items : List Json) → AllByRecursion (IsProperWithin n) items → AllByRecursion HasDistinctKeysThroughout items
distinct_items n [] all = tt
distinct_items n (tree ∷ items) all = (all.0.distinct, distinct_items n items all.1)

proper_items : (n : ℕ) (items : List Json) → largest (map nesting items) ≤ n → AllByRecursion HasDistinctKeysThroughout items → AllByRecursion (IsProperWithin n) items
proper_items n [] nested all = tt
proper_items n (tree ∷ items) nested all = (record { nested = omega (arith, nested); distinct = all.0 }, proper_items n items (omega (arith, nested)) all.1)

pub decided-List : (levels : ℕ) (items : List Json) (test : Bool) → 0 < levels → IsTrue test ↔ AllByRecursion (IsProperWithin (levels - 1)) items → IsTrue test ↔ IsProperWithin levels (trees.List items)
decided-List levels items test some by_items = (
  (λ yes. let all = by_items.0 yes in record {
    nested = omega (arith, nesting-List items, nested_items (levels - 1) items all);
    distinct = every-List HasDistinctKeys (λ m. Unit {0}) items (distinct_items (levels - 1) items all) tt;
  }),
  (λ proper. by_items.1 (proper_items (levels - 1) items (omega (arith, nesting-List items, proper.nested)) (every_items HasDistinctKeys (λ m. Unit {0}) items proper.distinct))),
)

-- ---- objects

nested_members : (n : ℕ) (members : List Member) → AllByRecursion (λ m. IsProperWithin n m.value) members → largest (map nesting_of_member members) ≤ n
nested_members n [] all = omega arith
nested_members n (m ∷ members) all = omega (arith, nesting_of_member-is m, all.0.nested, nested_members n members all.1)

distinct_members : (n : ℕ) (members : List Member) → AllByRecursion (λ m. IsProperWithin n m.value) members → AllByRecursion MemberHasDistinctKeys members
distinct_members n [] all = tt
distinct_members n (m ∷ members) all = (every_member HasDistinctKeys (λ m. Unit {0}) m tt all.0.distinct, distinct_members n members all.1)

proper_members : (n : ℕ) (members : List Member) → largest (map nesting_of_member members) ≤ n → AllByRecursion MemberHasDistinctKeys members → AllByRecursion (λ m. IsProperWithin n m.value) members
proper_members n [] nested all = tt
proper_members n (m ∷ members) nested all = (
  record { nested = omega (arith, nesting_of_member-is m, nested); distinct = every_value HasDistinctKeys (λ m. Unit {0}) m all.0 },
  proper_members n members (omega (arith, nested)) all.1,
)

pub decided-Object : (levels : ℕ) (members : List Member) (test : Bool) → 0 < levels → IsTrue test ↔ AreDistinct (keys members) × AllByRecursion (λ m. IsProperWithin (levels - 1) m.value) members
    → IsTrue test ↔ IsProperWithin levels (trees.Object members)
decided-Object levels members test some by_members = (
  (λ yes. let all = by_members.0 yes in record {
    nested = omega (arith, nesting-Object members, nested_members (levels - 1) members all.1);
    distinct = every-Object HasDistinctKeys (λ m. Unit {0}) members (distinct_members (levels - 1) members all.1) all.0;
  }),
  (λ proper. by_members.1 (
    every_keys HasDistinctKeys (λ m. Unit {0}) members proper.distinct,
    proper_members (levels - 1) members (omega (arith, nesting-Object members, proper.nested)) (every_members HasDistinctKeys (λ m. Unit {0}) members proper.distinct),
  )),
)
