use Rattle.face_walks.specs.Headings.{AreHeadings}
use Rattle.face_walks.proofs.headings.headings_of.Given as goal

abbrev pub invariant-loop-i : goal.invariant-loop-i
invariant-loop-i g l = AreHeadings g.W.Whole.numbers l.drawing l.i l.headings.items
