use Rattle.std.proofs.Common.{ℕ, ◌<◌}
use Rattle.sheet_check.specs.Same.{AreSame}
use Rattle.sheet_check.proofs.same.next_same.Given as goal

abbrev pub invariant-loop-high : goal.invariant-loop-high
invariant-loop-high g l = (v : ℕ) → v < l.high → ¬ AreSame g.W.Whole.numbers.ring l.vertices l.low v
