use Rattle.std.proofs.Common.{◌≡◌, ℕ, ◌<◌, length}
use Rattle.flat_fold.specs.EdgeSides.{HasSides, sides_at}
use Rattle.flat_fold.specs.Faces.{edge_at}
use Rattle.flat_fold.proofs.sides.all_sides.Given as goal

abbrev pub invariant-loop-edge : goal.invariant-loop-edge
invariant-loop-edge l = record {
  long : length l.sides ≡ l.edge-index;
  each : (e : ℕ) → e < l.edge-index → HasSides l.faces (edge_at l.edges e) (sides_at l.sides e);
}
