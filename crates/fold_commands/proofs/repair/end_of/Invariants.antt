use Rattle.std.proofs.Common.{◌≡◌, ◌+◌, ◌*◌, drop}
use Rattle.fold_commands.specs.Repairs.{end_of}
use Rattle.fold_commands.proofs.repair.end_of.Given as goal

abbrev pub invariant-loop-edge : goal.invariant-loop-edge
invariant-loop-edge l = record {
  so_far : l.end + end_of (drop l.edge-index l.edges) l.vertex ≡ end_of l.edges l.vertex;
  count : l.end ≡ 2 * l.edge-index;
}
