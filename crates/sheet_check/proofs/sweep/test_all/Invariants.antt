use Rattle.std.proofs.Common.{ℕ}
use Rattle.sheet_check.specs.Spans.{AreTestedBefore, ComesFrom, IsReachedBy, MeetTwo}
use Rattle.sheet_check.proofs.sweep.test_all.Given as goal

abbrev pub invariant-loop-place : goal.invariant-loop-place
invariant-loop-place g l = record {
  from : ComesFrom l.fn.before (MeetTwo g.W.Whole.numbers.ring (λ s. s.segment) (λ s. s.edge) l.spans) l.found;
  kept : (p : ℕ × ℕ) → IsReachedBy l.fn.before p → IsReachedBy l.found p;
  tested : AreTestedBefore g.W.Whole.numbers.ring (λ s. s.segment) (λ s. s.edge) l.place l.found l.spans;
}
