use Rattle.std.proofs.Common.{◌≡◌, length, take}
use Rattle.sheet_check.specs.Used.{AreUsed}
use Rattle.sheet_check.proofs.loose.mark_used.Given as goal

abbrev pub invariant-loop-edge : goal.invariant-loop-edge
invariant-loop-edge l = (length l.marks ≡ length l.initial.marks) × AreUsed (take l.edge-index l.edges) l.marks
