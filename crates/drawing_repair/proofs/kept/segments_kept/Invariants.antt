use Rattle.std.proofs.Common.{◌≡◌, take}
use Rattle.drawing_repair.specs.Kept.{kept_segments}
use Rattle.drawing_repair.proofs.kept.segments_kept.Given as goal

abbrev pub invariant-loop-edge : goal.invariant-loop-edge
invariant-loop-edge g l = l.segments ≡ kept_segments g.W.Whole.numbers.ring l.points l.flat (take l.edge-index l.edges)
