use Rattle.sheet_check.proofs.OneRefusal.{one_reason, sheet_or_reason}
use Rattle.sheet_check.proofs.laws.one_check.Goals as goal

pub returns-clause-reason : goal.returns-clause-reason
returns-clause-reason g c = λ ends faces e f h i. one_reason g.N.Exact.parts g.met.N.Exact.holds g.N.Ring.Whole.numbers g.met.N.Ring.Whole.holds ends faces e f h i

pub returns-clause-not_both : goal.returns-clause-not_both
returns-clause-not_both g c = λ ends faces fault sheet h. sheet_or_reason g.N.Exact.parts g.met.N.Exact.holds g.N.Ring.Whole.numbers g.met.N.Ring.Whole.holds ends faces fault sheet h
