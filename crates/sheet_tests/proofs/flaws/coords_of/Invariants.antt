use Rattle.std.proofs.Common.{◌≡◌, length}
use Rattle.sheet_tests.proofs.flaws.coords_of.Given as goal

abbrev pub invariant-loop-spot : goal.invariant-loop-spot
invariant-loop-spot l = length l.coords ≡ l.spot-index
