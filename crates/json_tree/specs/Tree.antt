-- the tree that a text spells: its keys, how deep its lists and objects nest, how long they are,
-- and which trees texts spell
use Rattle.std.specs.Prelude.{◌≢◌, ℕ, suc, ◌≤◌, max, List, [], ◌∷◌, length, map, Contains, AllPairs, IsUtf8}
use Rattle.json_tree.specs.Number.{IsNumber}
use Rattle.json_tree.specs.declared.tree.Json.{Json, Json-F, fold-Json}
use Rattle.json_tree.specs.declared.tree.Json.TheFolds.{fold-Member, every-Json, every-Member}
use Rattle.json_tree.specs.declared.tree.Json.TheOpen.{Member-F}
use Rattle.json_tree.specs.declared.tree.Json.TheOpen as layers
use Rattle.json_tree.specs.declared.tree.Member.{Member}

abbrev pub keys : List Member → List (List ℕ)
keys members = map (λ m. m.key) members

-- the object has this key
abbrev pub HasKey : List Member → List ℕ → Type 0
HasKey members key = Contains (keys members) key

-- no two are equal
abbrev pub AreDistinct : List (List ℕ) → Type 0
AreDistinct words = AllPairs (λ a b. a ≢ b) words

-- the largest of these numbers, 0 where there is none
abbrev pub largest : List ℕ → ℕ
largest [] = 0
largest (n ∷ ns) = max n (largest ns)

-- a list or an object nests one deeper than what stands in it
abbrev pub nesting_of_layer : Json-F ℕ ℕ → ℕ
nesting_of_layer (layers.List nestings) = suc (largest nestings)
nesting_of_layer (layers.Object nestings) = suc (largest nestings)
nesting_of_layer layer = 0

-- how many lists and objects stand in one another
abbrev pub nesting : Json → ℕ
nesting tree = fold-Json ℕ ℕ nesting_of_layer (λ m. m.value) tree

abbrev pub nesting_of_member : Member → ℕ
nesting_of_member m = fold-Member ℕ ℕ nesting_of_layer (λ m. m.value) m

-- an object, if it is one, has no key twice
abbrev pub HasDistinctKeys : Json-F Json Member → Type 0
HasDistinctKeys (layers.Object members) = AreDistinct (keys members)
HasDistinctKeys layer = Unit {0}

-- no object in the tree has a key twice
abbrev pub HasDistinctKeysThroughout : Json → Type 0
HasDistinctKeysThroughout tree = every-Json HasDistinctKeys (λ m. Unit {0}) tree

abbrev pub MemberHasDistinctKeys : Member → Type 0
MemberHasDistinctKeys m = every-Member HasDistinctKeys (λ m. Unit {0}) m

-- lists and objects nest at most so deep, and no object has a key twice
pub record IsProperWithin (levels : ℕ) (tree : Json) : Type 0 where
  pub nested : nesting tree ≤ levels
  pub distinct : HasDistinctKeysThroughout tree

abbrev pub IsProper : Json → Type 0
IsProper tree = IsProperWithin 64 tree

-- the text of a number spells one, and a word is UTF-8
abbrev pub HasValidText : Json-F Json Member → Type 0
HasValidText (layers.Number text) = IsNumber text
HasValidText (layers.Word word) = IsUtf8 word
HasValidText layer = Unit {0}

-- all texts in the tree are so, as their types say of each tree that a program holds
abbrev pub HasValidTexts : Json → Type 0
HasValidTexts tree = every-Json HasValidText (λ m. IsUtf8 m.key) tree

abbrev pub MemberHasValidTexts : Member → Type 0
MemberHasValidTexts m = every-Member HasValidText (λ m. IsUtf8 m.key) m

-- a list has at most so many elements, an object at most so many members, and the text of a number
-- and a word at most so many bytes
abbrev pub HasLengthUpTo : ℕ → Json-F Json Member → Type 0
HasLengthUpTo most (layers.List items) = length items ≤ most
HasLengthUpTo most (layers.Object members) = length members ≤ most
HasLengthUpTo most (layers.Number text) = length text ≤ most
HasLengthUpTo most (layers.Word word) = length word ≤ most
HasLengthUpTo most layer = Unit {0}

-- no list, object, number, word or key in the tree is longer
abbrev pub HasLengthsUpTo : ℕ → Json → Type 0
HasLengthsUpTo most tree = every-Json (HasLengthUpTo most) (λ m. length m.key ≤ most) tree

abbrev pub MemberHasLengthsUpTo : ℕ → Member → Type 0
MemberHasLengthsUpTo most m = every-Member (HasLengthUpTo most) (λ m. length m.key ≤ most) m
