use Rattle.std.proofs.Common.{subst}
use Rattle.flat_fold.specs.Sheets.{FormSheet, Pattern}
use Rattle.folded_layers.proofs.view.FoldedLayers.edges.Goals as goal

pub returns-clause-layers : goal.returns-clause-layers
returns-clause-layers g c =
    let form = subst (λ (s : Pattern g.row.N.Denot). FormSheet g.N.Exact.parts g.N.Ring.Whole.numbers s.ends s.faces) c.sheet.ensures.sheet c.ends.ensures.sheet in
    c.folded_sheets_have_layers.ensures c.args.self.now.folded.now form c.sheet.ensures.folded
