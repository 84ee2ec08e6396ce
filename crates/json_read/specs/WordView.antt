-- what a part of a character in code is to the machine that reads words, and which parts can go on
use Rattle.std.specs.Prelude.{ℕ, zero, suc, ◌+◌, ◌-◌, ◌*◌, ◌<◌, ◌≤◌, ◌⊎◌, Option, Some, None}
use Rattle.json_tree.specs.Word.{IsHighSurrogate}
use Rattle.json_machine.specs.WordScan as machine
use Rattle.json_machine.specs.WordScan.{WordPart, WordState, in_part, put}
use Rattle.json_read.specs.declared.character.Part.{Part}
use Rattle.json_read.specs.declared.character.Part.TheVariants.{Between, Encoded, Escape, Unit0, Unit1, Unit2, Unit3, High, LowEscape, Low0, Low1, Low2, Low3}
use Rattle.json_read.specs.declared.character.Step.{Step}
use Rattle.json_read.specs.declared.character.Step.TheVariants.{More, Whole}

-- the part of the machine that this part in code is
abbrev pub shown : Part → WordPart
shown Between = machine.Between
shown (Encoded later low high code) = machine.Character later low high code
shown Escape = machine.Escape
shown Unit0 = machine.Unit0
shown (Unit1 value) = machine.Unit1 value
shown (Unit2 value) = machine.Unit2 value
shown (Unit3 value) = machine.Unit3 value
shown (High high) = machine.High high
shown (LowEscape high) = machine.LowEscape high
shown (Low0 high) = machine.Low0 high
shown (Low1 high) = machine.Low1 high
shown (Low2 high low) = machine.Low2 high low
shown (Low3 high low) = machine.Low3 high low

-- the state after a step
abbrev pub stepped : WordState → Option Step → Option WordState
stepped w None = None
stepped w (Some (More part)) = Some (in_part w (shown part))
stepped w (Some (Whole c)) = Some (put w c)

-- the values from `first` up to `past` become scalar values alone, with so many more bytes of
-- UTF-8, which add six bits each
abbrev pub LeadsToScalars : ℕ → ℕ → ℕ → Type 0
LeadsToScalars zero first past = (past ≤ 55296) ⊎ ((57344 ≤ first) × (past ≤ 1114112))
LeadsToScalars (suc later) first past = LeadsToScalars later (first * 64) (past * 64)

-- whatever bytes the part goes on with, the character is a scalar value
abbrev pub IsSound : Part → Type 0
IsSound Between = Unit {0}
IsSound (Encoded later low high code) = (128 ≤ low) × (high ≤ 191)
    × LeadsToScalars later (code * 64 + (low - 128)) (code * 64 + (high - 127))
IsSound Escape = Unit {0}
IsSound Unit0 = Unit {0}
IsSound (Unit1 value) = value < 16
IsSound (Unit2 value) = (value < 220) ⊎ ((224 ≤ value) × (value < 256))
IsSound (Unit3 value) = (value < 3520) ⊎ ((3584 ≤ value) × (value < 4096))
IsSound (High high) = IsHighSurrogate high
IsSound (LowEscape high) = IsHighSurrogate high
IsSound (Low0 high) = IsHighSurrogate high
IsSound (Low1 high) = IsHighSurrogate high
IsSound (Low2 high low) = IsHighSurrogate high × (220 ≤ low) × (low < 224)
IsSound (Low3 high low) = IsHighSurrogate high × (3520 ≤ low) × (low < 3584)

-- a step to a sound part, or to a whole character
abbrev pub IsSoundStep : Step → Type 0
IsSoundStep (More part) = IsSound part
IsSoundStep (Whole c) = Unit {0}
