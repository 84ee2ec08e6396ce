use Rattle.std.proofs.Common.{◌≡◌, ℕ, ◌<◌, ◌++◌, take, drop}
use Rattle.sheet_check.proofs.listing.is_rotation.Given as goal

abbrev pub invariant-loop-place : goal.invariant-loop-place
invariant-loop-place l = (p : ℕ) → p < l.place → ¬ (l.corners ≡ drop p l.walk ++ take p l.walk)
