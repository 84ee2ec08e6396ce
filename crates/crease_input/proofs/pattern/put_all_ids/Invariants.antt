use Rattle.std.proofs.Common.{◌≡◌, ◌++◌, map, take, string_bytes}
use Rattle.std.specs.List.{join_with_byte}
use Rattle.crease_input.specs.Pattern.{printed_ids}
use Rattle.crease_input.proofs.pattern.put_all_ids.Given as goal

abbrev pub invariant-loop-place : goal.invariant-loop-place
invariant-loop-place l =
    string_bytes l.out ≡ string_bytes l.fn.out ++ join_with_byte 44 (map printed_ids (take l.place l.edges))
