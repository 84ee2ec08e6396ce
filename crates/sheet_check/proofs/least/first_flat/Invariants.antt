use Rattle.std.proofs.Common.{ℕ, ◌<◌}
use Rattle.sheet_check.specs.Spans.{IsFlat}
use Rattle.sheet_check.proofs.least.first_flat.Given as goal

abbrev pub invariant-loop-edge : goal.invariant-loop-edge
invariant-loop-edge l = (n : ℕ) → n < l.edge → ¬ IsFlat l.edges n
