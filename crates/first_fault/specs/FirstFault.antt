-- the first fault of a text, for a grammar that relates texts to the values that they spell
use Rattle.std.specs.Prelude.{◌≡◌, ℕ, ◌+◌, ◌<◌, List, ◌++◌, length, take}

-- the text spells some value
abbrev pub IsAccepted : {V : Type 0} → (List ℕ → V → Type 0) → List ℕ → Type 0
IsAccepted {V} Grammar text = (value : V) × Grammar text value

-- some accepted text begins with this one
abbrev pub Begins : {V : Type 0} → (List ℕ → V → Type 0) → List ℕ → Type 0
Begins Grammar text = (more : List ℕ) × IsAccepted Grammar (text ++ more)

-- where a text goes wrong: at a byte that can't stand there, or by ending too early
pub data Stop : Type 0 where
  Byte : Stop
  Ended : Stop

-- the first p bytes begin an accepted text; either the first p + 1 bytes don't, or p is the length
-- and the text isn't accepted
abbrev pub IsFirstFault : {V : Type 0} → (List ℕ → V → Type 0) → List ℕ → ℕ → Stop → Type 0
IsFirstFault Grammar text p Byte = (p < length text) × Begins Grammar (take p text)
    × ¬ Begins Grammar (take (p + 1) text)
IsFirstFault Grammar text p Ended = (p ≡ length text) × Begins Grammar (take p text)
    × ¬ IsAccepted Grammar text

-- the text has a first fault
abbrev pub HasFirstFault : {V : Type 0} → (List ℕ → V → Type 0) → List ℕ → Type 0
HasFirstFault Grammar text = (p : ℕ) × (stop : Stop) × IsFirstFault Grammar text p stop
