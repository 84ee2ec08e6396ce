-- a fault as it is shown
use Rattle.std.specs.Prelude.{ℕ, List, ◌++◌, codes}
use Rattle.std.specs.Fmt.{decimal}
use Rattle.json_read.specs.declared.fault.JsonCause.{JsonCause}
use Rattle.json_read.specs.declared.fault.JsonCause.TheVariants.{Byte, Ended, KeyTwice, Deep}
use Rattle.json_read.specs.declared.fault.JsonFault.{JsonFault}

-- the words for a cause
abbrev pub cause_words : JsonCause → List ℕ
cause_words Byte = codes "byte"
cause_words Ended = codes "ended"
cause_words KeyTwice = codes "key twice"
cause_words Deep = codes "deep"

-- the place and the cause, in one line
abbrev pub fault_text : JsonFault → List ℕ
fault_text fault = codes "json fault at " ++ decimal fault.place ++ codes ": "
    ++ cause_words fault.cause
