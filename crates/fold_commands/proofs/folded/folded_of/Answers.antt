use Rattle.std.proofs.lemmas.Result.{err_from_is_err_and}
use Rattle.fold_commands.proofs.FoldSteps.{form_stops, sheet_sizes}
use Rattle.fold_commands.proofs.folded.folded_of.Goals as goal

pub fold_ends-requires : goal.fold_ends-requires
fold_ends-requires g c = sheet_sizes _ _ c.requires

pub returns-in_err-fold_ends-clause-layout : goal.returns-in_err-fold_ends-clause-layout
returns-in_err-fold_ends-clause-layout g c =
    let p = err_from_is_err_and c.from_residual.result c.from_residual.ensures.1 in
    rw (p.1, p.2) (form_stops g.N.Exact.ROOT g.N.Exact.parts g.N.Exact.numbers g.N.Ring.Whole.numbers c.args.drawing _ c.in_err-fold_ends.ensures.refused)
