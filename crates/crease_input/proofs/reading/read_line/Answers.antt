use Rattle.std.proofs.Common.{refl}
use Rattle.std.proofs.lemmas.Result.{err_from_is_err_and}
use Rattle.crease_input.proofs.Unread.{from_refused, to_refused}
use Rattle.crease_input.proofs.reading.read_line.Goals as goal

pub returns-in_err-from : goal.returns-in_err-from
returns-in_err-from g c =
    let p = err_from_is_err_and c.from_residual.result c.from_residual.ensures.1 in
    rw (p.1, p.2) (from_refused _ c.args.line.now c.args.number _ _ refl c.in_err-from.ensures)

pub returns-in_err-to : goal.returns-in_err-to
returns-in_err-to g c =
    let p = err_from_is_err_and c.from_residual-in_err-to.result c.from_residual-in_err-to.ensures.1 in
    rw (p.1, p.2) (to_refused _ c.args.line.now c.args.number _ c.in_ok-from.from _ refl c.in_ok-from.ensures c.in_err-to.ensures)
