use Rattle.drawing_repair.proofs.OneDrawing.{not_both, one_answer, one_reason}
use Rattle.drawing_repair.proofs.laws.one_drawing.Goals as goal

pub returns-clause-answer : goal.returns-clause-answer
returns-clause-answer g c = λ flat ends faces a b h i. one_answer g.N.Exact.parts g.N.Ring.Whole.numbers g.met.N.Exact.holds g.met.N.Ring.Whole.holds flat ends faces a b h i

pub returns-clause-reason : goal.returns-clause-reason
returns-clause-reason g c = λ flat ends faces e f h i. one_reason g.N.Exact.parts g.N.Ring.Whole.numbers g.met.N.Exact.holds g.met.N.Ring.Whole.holds flat ends faces e f h i

pub returns-clause-not_both : goal.returns-clause-not_both
returns-clause-not_both g c = λ flat ends faces a f h i. not_both g.N.Exact.parts g.N.Ring.Whole.numbers g.met.N.Exact.holds g.met.N.Ring.Whole.holds flat ends faces a f h i
