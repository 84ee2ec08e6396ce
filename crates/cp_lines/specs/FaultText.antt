-- a fault as it is shown
use Rattle.std.specs.Prelude.{ℕ, List, ◌++◌, codes}
use Rattle.std.specs.Fmt.{decimal}
use Rattle.cp_lines.specs.declared.fault.CpCause.{CpCause}
use Rattle.cp_lines.specs.declared.fault.CpCause.TheVariants.{Byte, Ended}
use Rattle.cp_lines.specs.declared.fault.CpFault.{CpFault}

-- the word for a cause
abbrev pub cause_word : CpCause → List ℕ
cause_word Byte = codes "byte"
cause_word Ended = codes "ended"

-- the place and the cause, in one line
abbrev pub fault_text : CpFault → List ℕ
fault_text fault = codes "cp fault at line " ++ decimal fault.line ++ codes " column "
    ++ decimal fault.column ++ codes ": " ++ cause_word fault.cause
