use Rattle.flat_fold.specs.Computed.{exact}
use Rattle.form_file.proofs.OneFile.{same_file, same_form}
use Rattle.form_file.proofs.laws.one_form.Goals as goal

pub returns-clause-file : goal.returns-clause-file
returns-clause-file g c = λ layout orders f h is has. same_file g.N.Exact.ROOT g.N.Exact.parts c.one_file.ensures.once layout orders f h is has

pub returns-clause-form : goal.returns-clause-form
returns-clause-form g c = λ drawing orders f h is has.
    same_form g.N.Exact.ROOT g.N.Exact.parts c.one_file.ensures.once (exact g.N.Exact.numbers) g.N.Ring.Whole.numbers drawing (c.one_layout.ensures.layout drawing) orders f h is has
