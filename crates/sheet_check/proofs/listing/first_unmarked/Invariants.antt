use Rattle.std.proofs.Common.{◌≡◌, ℕ, ◌<◌, true}
use Rattle.sheet_check.specs.Listed.{is_marked}
use Rattle.sheet_check.proofs.listing.first_unmarked.Given as goal

abbrev pub invariant-loop-place : goal.invariant-loop-place
invariant-loop-place l = (w : ℕ) → w < l.place → is_marked l.marks w ≡ true
