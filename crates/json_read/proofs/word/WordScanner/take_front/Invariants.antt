use Rattle.std.proofs.Common.{◌≡◌, take, Some}
use Rattle.first_fault.specs.Machine.{steps}
use Rattle.json_machine.specs.WordScan.{next_character}
use Rattle.json_read.proofs.word.WordScanner.take_front.Given as goal

abbrev pub invariant-loop-place : goal.invariant-loop-place
invariant-loop-place l = steps next_character l.fn.self (take l.place l.bytes) ≡ Some l.self
