-- the texts after which a value or a key is due inside of the lists and objects that are open;
-- right after `[` a value is due and right after `{` a key, though the end may come there instead
use Rattle.std.specs.Prelude.{◌≡◌, ◌⊎◌, ℕ, suc, ◌<◌, List, [], ◌∷◌, ◌++◌, length}
use Rattle.json_tree.specs.Blank.{AreBlanks}
use Rattle.json_tree.specs.Spells.{SpellsItems, SpellsMembers}
use Rattle.json_tree.specs.Tree.{HasKey}
use Rattle.json_tree.specs.Word.{SpellsWord}
use Rattle.json_tree.specs.declared.tree.Json.{Json}
use Rattle.json_tree.specs.declared.tree.Member.{Member}
use Rattle.json_machine.specs.Machine.{Frame, InList, InObject}

-- nothing, or values with a comma after each
abbrev pub ItemsWithCommas : ℕ → List ℕ → List Json → Type 0
ItemsWithCommas depth text values = ((text ≡ []) × (values ≡ []))
    ⊎ ((front : List ℕ) × (text ≡ front ++ (44 ∷ [])) × SpellsItems depth front values)

-- nothing, or members with a comma after each
abbrev pub MembersWithCommas : ℕ → List ℕ → List Member → Type 0
MembersWithCommas depth text members = ((text ≡ []) × (members ≡ []))
    ⊎ ((front : List ℕ) × (text ≡ front ++ (44 ∷ [])) × SpellsMembers depth front members)

-- after this text inside of a list its next value is due: these values, a comma after each, and
-- blanks
abbrev pub ItemIsDueInside : ℕ → List Json → List ℕ → Type 0
ItemIsDueInside depth values text = (heads blanks : List ℕ) × (text ≡ heads ++ blanks)
    × ItemsWithCommas depth heads values × AreBlanks blanks

-- after this text inside of an object its next key is due: these members, a comma after each, and
-- blanks
abbrev pub MemberIsDueInside : ℕ → List Member → List ℕ → Type 0
MemberIsDueInside depth members text = (heads blanks : List ℕ) × (text ≡ heads ++ blanks)
    × MembersWithCommas depth heads members × AreBlanks blanks

-- this text spells a key that none of these members has
abbrev pub SpellsNewKey : List Member → List ℕ → List ℕ → Type 0
SpellsNewKey members text key = SpellsWord text key × ¬ HasKey members key

-- a colon with blanks round it
abbrev pub IsColon : List ℕ → Type 0
IsColon text = (before after : List ℕ) × (text ≡ before ++ (58 ∷ []) ++ after) × AreBlanks before
    × AreBlanks after

-- after this text inside of an object the value of this key is due: these members, the key, which
-- is new, and a colon
abbrev pub MemberValueIsDueInside : ℕ → List Member → List ℕ → List ℕ → Type 0
MemberValueIsDueInside depth members key text = (front spelled colon : List ℕ)
    × (text ≡ front ++ spelled ++ colon)
    × MemberIsDueInside depth members front × SpellsNewKey members spelled key × IsColon colon

-- after a text of which `IsDue` holds, this byte opened a list or an object inside of fewer than 64
-- others, and of the text inside of it so far `IsInside` holds
abbrev pub Opened : (List ℕ → Type 0) → ℕ → ℕ → (List ℕ → Type 0) → List ℕ → Type 0
Opened IsDue depth opening IsInside text = (before inside : List ℕ)
    × (text ≡ before ++ (opening ∷ []) ++ inside)
    × IsDue before × (depth < 64) × IsInside inside

-- after this text a value is due, inside of what is open
abbrev pub ValueIsDue : List Frame → List ℕ → Type 0
ValueIsDue [] text = AreBlanks text
ValueIsDue (InList values ∷ k) text = Opened (ValueIsDue k) (length k) 91 (ItemIsDueInside (suc (length k)) values) text
ValueIsDue (InObject members key ∷ k) text = Opened (ValueIsDue k) (length k) 123 (MemberValueIsDueInside (suc (length k)) members key) text

-- after this text a key is due, in an object with these members
abbrev pub KeyIsDue : List Member → List Frame → List ℕ → Type 0
KeyIsDue members k text = Opened (ValueIsDue k) (length k) 123 (MemberIsDueInside (suc (length k)) members) text
