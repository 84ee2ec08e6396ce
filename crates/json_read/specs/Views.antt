-- what the reading machine in code is to the machine of definitions
use Rattle.std.specs.Prelude.{ℕ, List}
use Rattle.json_tree.specs.declared.tree.Json.{Json, Null, Truth}
use Rattle.json_machine.specs.Machine as machine
use Rattle.json_machine.specs.WordScan.{WordState}
use Rattle.json_read.specs.declared.machine.Machine.{Machine}
use Rattle.json_read.specs.declared.phase.Literal.{Literal}
use Rattle.json_read.specs.declared.phase.Literal.TheVariants as literals
use Rattle.json_read.specs.declared.phase.Phase.{Phase}
use Rattle.json_read.specs.declared.phase.Phase.TheVariants.{ValueDue, FirstValueDue, KeyDue, FirstKeyDue, ColonDue, InWord, InKey, InNumber, InLiteral, AfterValue}

abbrev pub literal_tree : Literal → Json
literal_tree literals.Null = Null
literal_tree (literals.Truth is) = Truth is

-- the phase, with the word and the number in hand
abbrev pub phase_with : WordState → List ℕ → Phase → machine.Phase
phase_with word number ValueDue = machine.ValueDue
phase_with word number FirstValueDue = machine.FirstValueDue
phase_with word number KeyDue = machine.KeyDue
phase_with word number FirstKeyDue = machine.FirstKeyDue
phase_with word number ColonDue = machine.ColonDue
phase_with word number InWord = machine.InWord word
phase_with word number InKey = machine.InKey word
phase_with word number InNumber = machine.InNumber number
phase_with word number (InLiteral rest literal) = machine.InLiteral rest.now (literal_tree literal)
phase_with word number AfterValue = machine.AfterValue

abbrev pub state_of : Machine → machine.State
state_of m = record { stack = m.stack; root = m.root; phase = phase_with m.word m.number m.phase }
