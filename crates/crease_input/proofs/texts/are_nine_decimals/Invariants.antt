use Rattle.std.proofs.Common.{take}
use Rattle.std.specs.List.{AllByRecursion}
use Rattle.crease_input.specs.Files.{AreNineDecimals}
use Rattle.crease_input.proofs.texts.are_nine_decimals.Given as goal

abbrev pub invariant-loop-point : goal.invariant-loop-point
invariant-loop-point g l = AllByRecursion (AreNineDecimals g.N.Exact.parts) (take l.point-index l.coords)
