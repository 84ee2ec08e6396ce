use Rattle.std.proofs.lemmas.Result.{err_from_is_err_and}
use Rattle.fold_commands.proofs.FoldSteps.{drawing_stops}
use Rattle.fold_commands.proofs.folded.drawing_of.Goals as goal

pub returns-in_err-frame_ends-clause-drawing : goal.returns-in_err-frame_ends-clause-drawing
returns-in_err-frame_ends-clause-drawing g c =
    let p = err_from_is_err_and c.from_residual.result c.from_residual.ensures.1 in
    rw (p.1, p.2) (drawing_stops g.N.Exact.ROOT g.N.Exact.parts c.args.rule.now.row c.args.frame.now _ c.in_err-frame_ends.ensures.row)
