-- which bytes spell which tree (RFC 8259): the whole text in section 2, objects in section 4, lists
-- in section 5; lists and objects nest at most 64 deep, and the keys of one object are distinct as
-- the words that they spell
use Rattle.std.specs.Prelude.{◌≡◌, ℕ, suc, ◌<◌, List, [], ◌∷◌, ◌++◌, Bool, true, false, codes}
use Rattle.json_tree.specs.Blank.{AreBlanks}
use Rattle.json_tree.specs.Number.{IsNumber}
use Rattle.json_tree.specs.Word.{SpellsWord}
use Rattle.json_tree.specs.Tree.{HasKey}
use Rattle.json_tree.specs.declared.tree.Json.{Json, Null, Truth, Number, Word}
use Rattle.json_tree.specs.declared.tree.Json.TheViews as trees
use Rattle.json_tree.specs.declared.tree.Member.{Member}

abbrev pub truth_word : Bool → List ℕ
truth_word true = codes "true"
truth_word false = codes "false"

mutual
  -- a value that stands inside so many lists and objects
  pub data SpellsValue : ℕ → List ℕ → Json → Type 0 where
    null : {depth : ℕ} {text : List ℕ} {tree : Json} → text ≡ codes "null" → tree ≡ Null
        → SpellsValue depth text tree
    truth : {depth : ℕ} {text : List ℕ} {tree : Json} (is : Bool) → text ≡ truth_word is
        → tree ≡ Truth is → SpellsValue depth text tree
    number : {depth : ℕ} {text : List ℕ} {tree : Json} → IsNumber text → tree ≡ Number text
        → SpellsValue depth text tree
    word : {depth : ℕ} {text : List ℕ} {tree : Json} (word : List ℕ) → SpellsWord text word
        → tree ≡ Word word → SpellsValue depth text tree
    empty_list : {depth : ℕ} {text : List ℕ} {tree : Json} (blanks : List ℕ) → depth < 64
        → AreBlanks blanks → text ≡ (91 ∷ []) ++ blanks ++ (93 ∷ []) → tree ≡ trees.List []
        → SpellsValue depth text tree
    list : {depth : ℕ} {text : List ℕ} {tree : Json} (inner : List ℕ) (items : List Json)
        → depth < 64 → SpellsItems (suc depth) inner items
        → text ≡ (91 ∷ []) ++ inner ++ (93 ∷ []) → tree ≡ trees.List items
        → SpellsValue depth text tree
    empty_object : {depth : ℕ} {text : List ℕ} {tree : Json} (blanks : List ℕ) → depth < 64
        → AreBlanks blanks → text ≡ (123 ∷ []) ++ blanks ++ (125 ∷ []) → tree ≡ trees.Object []
        → SpellsValue depth text tree
    object : {depth : ℕ} {text : List ℕ} {tree : Json} (inner : List ℕ) (members : List Member)
        → depth < 64 → SpellsMembers (suc depth) inner members
        → text ≡ (123 ∷ []) ++ inner ++ (125 ∷ []) → tree ≡ trees.Object members
        → SpellsValue depth text tree

  -- a value with blanks round it
  pub data SpellsItem : ℕ → List ℕ → Json → Type 0 where
    item : {depth : ℕ} {text : List ℕ} {tree : Json} (before value after : List ℕ)
        → AreBlanks before → SpellsValue depth value tree → AreBlanks after
        → text ≡ before ++ value ++ after → SpellsItem depth text tree

  -- one value or more, with commas between them
  pub data SpellsItems : ℕ → List ℕ → List Json → Type 0 where
    first : {depth : ℕ} {text : List ℕ} {all : List Json} (tree : Json) → SpellsItem depth text tree
        → all ≡ tree ∷ [] → SpellsItems depth text all
    next : {depth : ℕ} {text : List ℕ} {all : List Json} (front last : List ℕ) (trees : List Json) (tree : Json) → SpellsItems depth front trees → SpellsItem depth last tree
        → text ≡ front ++ (44 ∷ []) ++ last → all ≡ trees ++ tree ∷ [] → SpellsItems depth text all

  -- a key, a colon and a value, with blanks round each
  pub data SpellsMember : ℕ → List ℕ → Member → Type 0 where
    member : {depth : ℕ} {text : List ℕ} {m : Member} (before key between item : List ℕ)
        → AreBlanks before → SpellsWord key m.key → AreBlanks between
        → SpellsItem depth item m.value
        → text ≡ before ++ key ++ between ++ (58 ∷ []) ++ item → SpellsMember depth text m

  -- one member or more, with commas between them, none with a key of an earlier one
  pub data SpellsMembers : ℕ → List ℕ → List Member → Type 0 where
    first_member : {depth : ℕ} {text : List ℕ} {all : List Member} (m : Member)
        → SpellsMember depth text m → all ≡ m ∷ [] → SpellsMembers depth text all
    next_member : {depth : ℕ} {text : List ℕ} {all : List Member} (front last : List ℕ) (members : List Member) (m : Member) → SpellsMembers depth front members → SpellsMember depth last m
        → ¬ HasKey members m.key → text ≡ front ++ (44 ∷ []) ++ last → all ≡ members ++ m ∷ []
        → SpellsMembers depth text all

-- the text is one value with blanks round it
abbrev pub Spells : List ℕ → Json → Type 0
Spells text tree = SpellsItem 0 text tree
