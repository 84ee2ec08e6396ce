use Rattle.std.proofs.Common.{ℕ, take}
use Rattle.std.specs.Prelude.{All}
use Rattle.sheet_check.specs.Spans.{AreTested, ComesFrom, IsReachedBy, MeetsOne}
use Rattle.sheet_check.proofs.sweep.test_near.Given as goal

abbrev pub invariant-loop-t : goal.invariant-loop-t
invariant-loop-t g l = record {
  from : ComesFrom l.fn.before (MeetsOne g.W.Whole.numbers.ring (λ s. s.segment) (λ s. s.edge) l.s l.near) l.found;
  kept : (p : ℕ × ℕ) → IsReachedBy l.fn.before p → IsReachedBy l.found p;
  tested : All (AreTested g.W.Whole.numbers.ring (λ s. s.segment) (λ s. s.edge) l.found l.s) (take l.t-index l.near);
}
