use Rattle.std.proofs.lemmas.Result.{err_from_is_err_and}
use Rattle.sheet_check.proofs.table.check_plane.Goals as goal

pub returns-in_err-check_different-clause-refused : goal.returns-in_err-check_different-clause-refused
returns-in_err-check_different-clause-refused g c =
    let p = err_from_is_err_and c.from_residual.result c.from_residual.ensures.1 in
    rw (p.1, p.2) (λ faces. c.in_err-check_different.ensures.refused c.args.edges.now faces)
