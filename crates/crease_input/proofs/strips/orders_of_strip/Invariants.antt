use Rattle.std.proofs.Common.{◌≡◌}
use Rattle.std.specs.List.{flat_map, range_with_len}
use Rattle.crease_input.specs.Strips.{orders_on}
use Rattle.crease_input.proofs.strips.orders_of_strip.Given as goal

abbrev pub invariant-loop-i : goal.invariant-loop-i
invariant-loop-i l = l.orders ≡ flat_map (orders_on l.n) (range_with_len 0 l.i)
