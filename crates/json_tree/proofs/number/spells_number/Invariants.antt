use Rattle.std.proofs.Common.{◌≡◌, take, Some}
use Rattle.json_tree.specs.Scan.{phase_after}
use Rattle.json_tree.proofs.number.spells_number.Given as goal

abbrev pub invariant-loop-byte : goal.invariant-loop-byte
invariant-loop-byte l = phase_after (take l.byte-index l.bytes) ≡ Some l.phase
