use Rattle.std.proofs.Common.{◌≡◌, ℕ, ◌<◌}
use Rattle.face_walks.specs.Rings.{half_at}
use Rattle.face_walks.proofs.cycles.holds.Given as goal

abbrev pub invariant-loop-other : goal.invariant-loop-other
invariant-loop-other l = (k : ℕ) → k < l.other-index → ¬ (half_at l.cycle k ≡ l.half.0)
