use Rattle.fold_commands.proofs.Headline.{true_verdicts}
use Rattle.fold_commands.proofs.folded.true_verdicts.Goals as goal

pub returns : goal.returns
returns g c = true_verdicts g.N.Exact.ROOT g.N.Exact.parts g.N.Exact.numbers g.N.Ring.Whole.numbers c.folded_sheets_have_layers.ensures c.list_decides_points.ensures.kinds
    (λ K sheet los folded. c.list_decides_points.ensures.whole K sheet los folded)
