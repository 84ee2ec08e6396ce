use Rattle.std.proofs.lemmas.Result.{err_from_is_err_and}
use Rattle.fold_commands.proofs.Repairing.{frame_stops, in_range_of_frame}
use Rattle.fold_commands.proofs.repair.ends_of_frame.Goals as goal

pub returns-in_err-ends-clause-ends : goal.returns-in_err-ends-clause-ends
returns-in_err-ends-clause-ends g c =
    let p = err_from_is_err_and c.from_residual.result c.from_residual.ensures.1 in
    rw (p.1, p.2) (frame_stops g.N.Exact.ROOT g.N.Exact.parts c.args.rule.now.row c.args.frame.now _ c.in_err-ends.ensures.row)

pub returns-clause-ends : goal.returns-clause-ends
returns-clause-ends g c = (_, c.in_ok-ends.ensures.row)

pub returns-clause-in_range : goal.returns-clause-in_range
returns-clause-in_range g c = in_range_of_frame _ _ c.in_ok-ends.ensures.within
