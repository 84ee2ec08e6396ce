use Rattle.std.proofs.Common.{take}
use Rattle.std.specs.List.{AllByRecursion}
use Rattle.crease_input.specs.Frames.{IsReadablePoint}
use Rattle.keys_tests.proofs.drawings.are_points_readable.Given as goal

abbrev pub invariant-loop-point : goal.invariant-loop-point
invariant-loop-point l = AllByRecursion IsReadablePoint (take l.point-index l.points)
