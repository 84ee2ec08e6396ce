use Rattle.std.proofs.Common.{◌≡◌, length}
use Rattle.sheet_check.specs.Twice.{AreSeen}
use Rattle.sheet_check.proofs.pinch.least_twice.Given as goal

abbrev pub invariant-loop-place : goal.invariant-loop-place
invariant-loop-place l = (length l.marks.items ≡ l.count) × AreSeen l.corners l.place l.marks.items l.found
