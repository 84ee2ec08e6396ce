use Rattle.std.proofs.Common.{◌≡◌, take}
use Rattle.number_rules.specs.WholeText.{IsKept, with_bytes}
use Rattle.number_rules.specs.declared.whole_text.Digits.TheVariants.{Nothing}
use Rattle.number_rules.proofs.whole_text.read_digits.Given as goal

abbrev pub invariant-loop-byte : goal.invariant-loop-byte
invariant-loop-byte l = IsKept l.digits × (l.digits ≡ with_bytes Nothing (take l.byte-index l.bytes))
