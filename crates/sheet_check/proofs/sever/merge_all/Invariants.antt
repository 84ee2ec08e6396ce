use Rattle.std.proofs.Common.{length}
use Rattle.sheet_check.specs.Labels.{AreLabelled}
use Rattle.sheet_check.proofs.sever.merge_all.Given as goal

abbrev pub invariant-loop-edge : goal.invariant-loop-edge
invariant-loop-edge l = AreLabelled l.pieces l.edges l.edge (length l.initial.labels) l.labels
