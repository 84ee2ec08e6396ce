-- what reading a text may answer
use Rattle.std.specs.Prelude.{◌≡◌, ℕ, List, take, Result, Ok, Err}
use Rattle.first_fault.specs.FirstFault as first
use Rattle.cp_lines.specs.CpText.{CpText}
use Rattle.cp_lines.specs.Place.{line_at, column_at}
use Rattle.cp_lines.specs.declared.line.CpLine.{CpLine}
use Rattle.cp_lines.specs.declared.fault.CpCause.{CpCause}
use Rattle.cp_lines.specs.declared.fault.CpCause.TheVariants.{Byte, Ended}
use Rattle.cp_lines.specs.declared.fault.CpFault.{CpFault}
use Rattle.cp_lines.specs.declared.fault.CpReadFault.{CpReadFault}
use Rattle.cp_lines.specs.declared.fault.CpReadFault.TheVariants.{Text, Memory}
use Rattle.cp_lines.specs.declared.read.Reading.{Reading}
use Rattle.cp_lines.specs.declared.read.Reading.TheVariants.{Lines, Stopped}

-- a cause as the way in which a text goes wrong
abbrev pub stop_of : CpCause → first.Stop
stop_of Byte = first.Byte
stop_of Ended = first.Ended

-- the first fault of the text stands at p, with this cause
abbrev pub IsFaultAt : List ℕ → ℕ → CpCause → Type 0
IsFaultAt text p cause = first.IsFirstFault CpText text p (stop_of cause)

-- the fault names the first fault of the text by its line and column
abbrev pub NamesFirstFault : List ℕ → CpFault → Type 0
NamesFirstFault text fault = (p : ℕ) × IsFaultAt text p fault.cause
    × (fault.line ≡ line_at (take p text)) × (fault.column ≡ column_at (take p text))

-- lines that the text spells, its first fault, or want of memory
abbrev pub Reads : List ℕ → Result (List CpLine) CpReadFault → Type 0
Reads text (Ok lines) = CpText text lines
Reads text (Err (Text fault)) = NamesFirstFault text fault
Reads text (Err (Memory e)) = Unit {0}

-- the answer is want of memory
abbrev pub LacksMemory : Result (List CpLine) CpReadFault → Type 0
LacksMemory (Ok lines) = ⊥
LacksMemory (Err (Text fault)) = ⊥
LacksMemory (Err (Memory e)) = Unit {0}

-- lines that the text spells, or the place and cause of its first fault
abbrev pub IsReading : List ℕ → Reading → Type 0
IsReading text (Lines lines) = CpText text lines
IsReading text (Stopped p cause) = IsFaultAt text p cause
