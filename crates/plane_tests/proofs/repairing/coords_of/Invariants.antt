use Rattle.std.proofs.Common.{◌≡◌, length}
use Rattle.plane_tests.proofs.repairing.coords_of.Given as goal

abbrev pub invariant-loop-spot : goal.invariant-loop-spot
invariant-loop-spot g l = length l.coords ≡ l.spot-index
