use Rattle.std.proofs.Common.{◌≡◌, ℕ, ◌<◌, length, None}
use Rattle.std.specs.Prelude.{slice_index_or}
use Rattle.flat_fold.specs.Rounds.{IsCrossing}
use Rattle.flat_fold.proofs.sides.crossings.Given as goal

abbrev pub invariant-loop-e : goal.invariant-loop-e
invariant-loop-e g l = record {
  long : length l.crossings ≡ l.e;
  each : (e : ℕ) → e < l.e → IsCrossing l.sheet.ends.edges l.sheet.faces e (slice_index_or l.crossings e None);
}
