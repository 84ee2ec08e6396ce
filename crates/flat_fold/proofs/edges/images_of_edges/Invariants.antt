use Rattle.std.proofs.Common.{◌≡◌, ◌++◌}
use Rattle.std.specs.Prelude.{drop}
use Rattle.flat_fold.specs.EdgeImages.{edge_images}
use Rattle.flat_fold.proofs.edges.images_of_edges.Given as goal

abbrev pub invariant-loop-e : goal.invariant-loop-e
invariant-loop-e l = l.images ++ edge_images l.corners (drop l.e l.edges) (drop l.e l.sides) ≡ edge_images l.corners l.edges l.sides
