use Rattle.std.proofs.Common.{◌≡◌, ◌++◌, take, drop}
use Rattle.number_rules.specs.WholeText.{before_comma, behind_comma}
use Rattle.number_rules.proofs.whole_text.first_comma.Given as goal

abbrev pub invariant-loop-i : goal.invariant-loop-i
invariant-loop-i l = (before_comma l.bytes ≡ take l.i l.bytes ++ before_comma (drop l.i l.bytes)) × (behind_comma l.bytes ≡ behind_comma (drop l.i l.bytes))
