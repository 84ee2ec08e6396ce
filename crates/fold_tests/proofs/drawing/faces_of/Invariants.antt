use Rattle.std.proofs.Common.{◌≡◌, length}
use Rattle.fold_tests.proofs.drawing.faces_of.Given as goal

abbrev pub invariant-loop-corners : goal.invariant-loop-corners
invariant-loop-corners l = length l.made ≡ l.corners-index
