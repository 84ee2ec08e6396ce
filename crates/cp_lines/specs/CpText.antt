-- CP text: lines, each of blanks alone, or of the kind of a crease and the coordinates of its two
-- ends
use Rattle.std.specs.Prelude.{◌≡◌, ◌⊎◌, ◌≤◌, ℕ, ◌+◌, List, [], ◌∷◌, ◌++◌, Option, Some, None, option_to_list}
use Rattle.std.specs.List.{AllByRecursion}
use Rattle.json_tree.specs.Number.{IsNumber}
use Rattle.cp_lines.specs.declared.line.CpLine.{CpLine}

-- a space or a tab
abbrev pub IsBlank : ℕ → Type 0
IsBlank b = (b ≡ 32) ⊎ (b ≡ 9)

-- blanks, in any number
abbrev pub AreBlanks : List ℕ → Type 0
AreBlanks text = AllByRecursion IsBlank text

-- blanks, at least one
abbrev pub IsGap : List ℕ → Type 0
IsGap [] = ⊥
IsGap (b ∷ rest) = IsBlank b × AreBlanks rest

-- these numbers, each after a gap
abbrev pub SpacedNumbers : List (List ℕ) → List ℕ → Type 0
SpacedNumbers [] text = text ≡ []
SpacedNumbers (n ∷ ns) text = (gap rest : List ℕ) × (text ≡ gap ++ n ++ rest) × IsGap gap
    × IsNumber n × SpacedNumbers ns rest

-- blanks, the digit of a kind from 0 to 4, and these numbers
abbrev pub KindAndNumbers : ℕ → List (List ℕ) → List ℕ → Type 0
KindAndNumbers kind ns text = (blanks rest : List ℕ) × (text ≡ blanks ++ (kind + 48) ∷ rest)
    × AreBlanks blanks × (kind ≤ 4) × SpacedNumbers ns rest

-- a line without its end: blanks spell nothing, and a kind and four numbers, with blanks after
-- them, spell a segment
abbrev pub SpellsLine : List ℕ → Option CpLine → Type 0
SpellsLine text None = AreBlanks text
SpellsLine text (Some l) = (front blanks : List ℕ) × (text ≡ front ++ blanks)
    × KindAndNumbers l.kind (l.x1 ∷ l.y1 ∷ l.x2 ∷ l.y2 ∷ []) front × AreBlanks blanks

-- a line feed, or a return and a line feed
abbrev pub IsLineEnd : List ℕ → Type 0
IsLineEnd text = (text ≡ 10 ∷ []) ⊎ (text ≡ 13 ∷ 10 ∷ [])

-- lines that each have their end: none, or one after others
pub data EndedLines : List ℕ → List CpLine → Type 0 where
  none : EndedLines [] []
  one_more : {text : List ℕ} {lines : List CpLine} (before line end : List ℕ) (earlier : List CpLine) (l : Option CpLine)
      → EndedLines before earlier → SpellsLine line l → IsLineEnd end → text ≡ before ++ line ++ end
      → lines ≡ earlier ++ option_to_list l → EndedLines text lines

-- a CP text: lines with their ends, and a last one that lacks its end, which may be empty
abbrev pub CpText : List ℕ → List CpLine → Type 0
CpText text lines = (before last : List ℕ) × (earlier : List CpLine) × (l : Option CpLine) ×
    EndedLines before earlier × SpellsLine last l × (text ≡ before ++ last)
    × (lines ≡ earlier ++ option_to_list l)
