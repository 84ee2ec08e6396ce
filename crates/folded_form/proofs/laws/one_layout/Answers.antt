use Rattle.flat_fold.specs.Computed.{exact}
use Rattle.folded_form.proofs.OneForm.{not_both, one_reason, same_layout}
use Rattle.folded_form.proofs.laws.one_layout.Goals as goal

pub returns-clause-layout : goal.returns-clause-layout
returns-clause-layout g c = λ drawing layout other h i. same_layout g.N.Exact.parts g.met.N.Exact.holds (exact g.N.Exact.numbers) g.N.Ring.Whole.numbers g.met.N.Ring.Whole.holds drawing layout other h i

pub returns-clause-reason : goal.returns-clause-reason
returns-clause-reason g c = λ drawing e f h i. one_reason g.N.Exact.parts g.met.N.Exact.holds (exact g.N.Exact.numbers) g.N.Ring.Whole.numbers g.met.N.Ring.Whole.holds drawing e f h i

pub returns-clause-not_both : goal.returns-clause-not_both
returns-clause-not_both g c = λ drawing layout fault h i. not_both g.N.Exact.parts g.met.N.Exact.holds (exact g.N.Exact.numbers) g.N.Ring.Whole.numbers g.met.N.Ring.Whole.holds drawing layout h fault i
