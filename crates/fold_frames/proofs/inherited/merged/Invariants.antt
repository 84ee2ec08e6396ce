use Rattle.std.proofs.Common.{◌≡◌, ◌≤◌, length, map, drop}
use Rattle.fold_frames.specs.Inherits.{inherited}
use Rattle.fold_frames.proofs.inherited.merged.Given as goal

abbrev pub invariant-loop-left : goal.invariant-loop-left
invariant-loop-left l = record {
  within : l.left ≤ length l.way;
  merged : map (λ e. (e.0.now, e.1.now)) l.table.entries ≡ inherited l.frames (drop l.left l.way);
}

abbrev pub decreases-loop-left : goal.decreases-loop-left
decreases-loop-left l = l.left
