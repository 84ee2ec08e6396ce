use Rattle.std.proofs.Common.{take, string_bytes}
use Rattle.crease_input.proofs.PatternText.{ArePut}
use Rattle.crease_input.proofs.pattern.put_points.Given as goal

abbrev pub invariant-loop-place : goal.invariant-loop-place
invariant-loop-place g l =
    ArePut g.N.Exact.ROOT g.N.Exact.parts (take l.place l.coords) (string_bytes l.fn.out) (string_bytes l.out)
