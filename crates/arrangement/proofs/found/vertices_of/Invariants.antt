use Rattle.std.proofs.Common.{◌≡◌}
use Rattle.arrangement.proofs.found.vertices_of.Given as goal

abbrev pub invariant-loop-vertex : goal.invariant-loop-vertex
invariant-loop-vertex g l = l.vertices.items ≡ l.yielded
