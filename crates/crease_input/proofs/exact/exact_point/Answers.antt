use Rattle.std.proofs.lemmas.Result.{err_from_is_err_and}
use Rattle.crease_input.proofs.Unread.{x_refused, y_refused}
use Rattle.crease_input.proofs.exact.exact_point.Goals as goal

pub returns-in_err-x : goal.returns-in_err-x
returns-in_err-x g c =
    let p = err_from_is_err_and c.from_residual.result c.from_residual.ensures.1 in
    rw (p.1, p.2) (x_refused _ _ _ _ _ c.in_err-x.ensures)

pub returns-in_err-y : goal.returns-in_err-y
returns-in_err-y g c =
    let p = err_from_is_err_and c.from_residual-in_err-y.result c.from_residual-in_err-y.ensures.1 in
    rw (p.1, p.2) (y_refused _ _ _ _ _ _ c.in_ok-x.ensures c.in_err-y.ensures)
