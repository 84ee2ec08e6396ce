-- where the machine stops within a piece of a text, and the cause that it sees there
use Rattle.std.specs.Prelude.{◌≡◌, ◌<◌, ℕ, ◌==◌, ◌&&◌, ◌||◌, List, length, take, slice_index, Some, None, if◌then◌else◌}
use Rattle.first_fault.specs.Machine.{steps}
use Rattle.json_machine.specs.Machine.{Phase, ValueDue, FirstValueDue, InKey, State, step}
use Rattle.json_machine.specs.WordScan.{WordState, is_between}
use Rattle.json_read.specs.declared.fault.JsonCause.{JsonCause}
use Rattle.json_read.specs.declared.fault.JsonCause.TheVariants.{Byte, KeyTwice, Deep}

-- a bracket or a brace where a value is due
abbrev pub cause_at_value : ℕ → JsonCause
cause_at_value b = if b == 91 || b == 123 then Deep else Byte

-- the quote that ends a key
abbrev pub cause_in_key : WordState → ℕ → JsonCause
cause_in_key w b = if is_between w.part && b == 34 then KeyTwice else Byte

-- why this byte can't stand there, where it can't
abbrev pub cause_of : Phase → ℕ → JsonCause
cause_of ValueDue b = cause_at_value b
cause_of FirstValueDue b = cause_at_value b
cause_of (InKey w) b = cause_in_key w b
cause_of phase b = Byte

-- from s the machine reads p bytes of the piece and can't read the next
abbrev pub IsStop : State → List ℕ → ℕ → JsonCause → Type 0
IsStop s piece p cause = (p < length piece) × (last : State)
    × (steps step s (take p piece) ≡ Some last) × (step last (slice_index piece p) ≡ None)
    × (cause ≡ cause_of last.phase (slice_index piece p))
