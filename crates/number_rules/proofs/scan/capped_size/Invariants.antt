use Rattle.std.proofs.Common.{◌≡◌, ◌≤◌, take}
use Rattle.std.specs.Prelude.{min}
use Rattle.number_rules.specs.Value.{spelled}
use Rattle.number_rules.proofs.scan.capped_size.Given as goal

abbrev pub invariant-loop-byte : goal.invariant-loop-byte
invariant-loop-byte l = (l.size ≤ 1000000000) × (l.size ≡ min (spelled (take l.byte-index l.bytes)) 1000000000)
