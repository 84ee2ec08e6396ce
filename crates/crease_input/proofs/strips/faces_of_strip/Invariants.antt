use Rattle.std.proofs.Common.{◌≡◌, map}
use Rattle.std.specs.List.{range_with_len}
use Rattle.crease_input.specs.Strips.{square_at}
use Rattle.crease_input.proofs.strips.faces_of_strip.Given as goal

abbrev pub invariant-loop-i : goal.invariant-loop-i
invariant-loop-i l = l.faces ≡ map (square_at l.n) (range_with_len 0 l.i)
