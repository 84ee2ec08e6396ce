use Rattle.std.proofs.lemmas.Result.{err_from_is_err_and}
use Rattle.flat_fold.specs.Computed.{exact}
use Rattle.folded_form.proofs.Stops.{sheet_stops}
use Rattle.folded_form.proofs.form.fold_ends.Goals as goal

pub returns-in_err-sheet-clause-refused : goal.returns-in_err-sheet-clause-refused
returns-in_err-sheet-clause-refused g c =
    let p = err_from_is_err_and c.from_residual.result c.from_residual.ensures.1 in
    rw (p.1, p.2) (sheet_stops g.N.Exact.parts (exact g.N.Exact.numbers) g.N.Ring.Whole.numbers (c.args.ends, c.args.faces) _ c.in_err-sheet.ensures.refused)
