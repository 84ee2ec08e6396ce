use Rattle.sheet_check.specs.Listed.{AreListed}
use Rattle.sheet_check.proofs.listing.first_wrong.Given as goal

abbrev pub invariant-loop-face : goal.invariant-loop-face
invariant-loop-face l = AreListed l.walks l.faces l.face l.marks
