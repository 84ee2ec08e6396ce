use Rattle.std.proofs.Common.{◌≡◌, length}
use Rattle.fold_tests.proofs.drawing.coords_of.Given as goal

abbrev pub invariant-loop-spot : goal.invariant-loop-spot
invariant-loop-spot g l = length l.coords ≡ l.spot-index
