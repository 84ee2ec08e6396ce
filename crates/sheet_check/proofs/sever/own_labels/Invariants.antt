use Rattle.sheet_check.specs.Labels.{AreOwn}
use Rattle.sheet_check.proofs.sever.own_labels.Given as goal

abbrev pub invariant-loop-face : goal.invariant-loop-face
invariant-loop-face l = AreOwn l.face l.labels.items
