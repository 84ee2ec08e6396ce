use Rattle.half_planes.proofs.SheetEdges.{together}
use Rattle.half_planes.proofs.sheet_edge.edges_run_together.Goals as goal

pub returns : goal.returns
returns g c =
    let first = c.edge_ends.result in
    let second = c.edge_ends-2.result in
    let same = together g.S.Ring.Whole.numbers.ring (g.S.SheetView.sheet c.args.sheet.now) c.args.first c.args.second first.0 first.1 second.0 second.1
    c.edge_ends.ensures.lies c.edge_ends-2.ensures.lies in
    (λ h. same.0 (c.segments_run_together.ensures.0 h), λ r. c.segments_run_together.ensures.1 (same.1 r))
