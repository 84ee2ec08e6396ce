use Rattle.std.proofs.lemmas.Result.{err_from_is_err_and}
use Rattle.fold_commands.specs.Drills.{plainly, strip_line}
use Rattle.fold_commands.specs.Judges.{Judges}
use Rattle.fold_commands.proofs.Replaced.{replaced, stays}
use Rattle.fold_commands.proofs.drill.drill.Goals as goal

pub returns : goal.returns
returns c =
    replaced (strip_line c.args.options.now.count) c.in_ok-strip_line.field-0 c.in_ok-_yes._yes
    (Judges plainly c.args.input) c.in_ok-_yes.ensures c.in_ok-strip_line.ensures

pub returns-in_err-_yes : goal.returns-in_err-_yes
returns-in_err-_yes c =
    let p = err_from_is_err_and c.from_residual.result c.from_residual.ensures.1 in
    rw (p.1, p.2) (stays (strip_line c.args.options.now.count) (Judges plainly c.args.input) c.in_err-_yes.field-0.0 c.in_err-_yes.ensures)
