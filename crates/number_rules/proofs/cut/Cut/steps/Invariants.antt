use Rattle.std.proofs.Common.{◌≡◌, ◌≤◌, ◌*◌, ◌^◌}
use Rattle.std.specs.Prelude.{min}
use Rattle.number_rules.specs.Cut.{cap}
use Rattle.number_rules.proofs.cut.Cut.steps.Given as goal

abbrev pub invariant-loop : goal.invariant-loop
invariant-loop l = (l.whole ≤ cap) × (l.whole ≡ min (l.initial.whole * 10 ^ l.counter) cap)
