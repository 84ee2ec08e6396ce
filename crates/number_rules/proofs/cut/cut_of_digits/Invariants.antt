use Rattle.std.proofs.Common.{◌≤◌, ◌^◌, take}
use Rattle.number_rules.specs.Value.{spelled, count_digits}
use Rattle.number_rules.specs.Cut.{Shows}
use Rattle.number_rules.proofs.cut.cut_of_digits.Given as goal

abbrev pub invariant-loop-byte : goal.invariant-loop-byte
invariant-loop-byte l = (l.cut.whole ≤ 10 ^ 38) × Shows (spelled (take l.byte-index l.bytes)) (count_digits (take l.byte-index l.bytes)) l.before l.cut
