use Rattle.std.proofs.Common.{◌≡◌, ◌++◌, map, take, string_bytes}
use Rattle.std.specs.List.{join_with_byte}
use Rattle.crease_input.specs.Pattern.{printed_exact}
use Rattle.crease_input.proofs.pattern.put_exact_points.Given as goal

abbrev pub invariant-loop-place : goal.invariant-loop-place
invariant-loop-place g l =
    string_bytes l.out ≡ string_bytes l.fn.out ++ join_with_byte 44 (map (printed_exact g.N.Exact.ROOT g.N.Exact.parts) (take l.place l.coords))
