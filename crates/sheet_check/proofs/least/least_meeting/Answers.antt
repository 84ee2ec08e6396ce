use Rattle.std.proofs.Common.{length}
use Rattle.sheet_check.proofs.LeastLemmas.{different_edges, least_pair}
use Rattle.sheet_check.proofs.least.least_meeting.Goals as goal

pub counted_least-requires-clause-different : goal.counted_least-requires-clause-different
counted_least-requires-clause-different g c =
    different_edges (λ s. s.edge) (length c.args.edges.now) c.in_ok-spans.spans.items c.as_slice.result.now c.as_slice.ensures.value c.in_ok-spans.ensures.every

pub returns : goal.returns
returns g c =
    least_pair g.W.Whole.numbers.ring c.args.vertices.now c.args.edges.now (λ s. s.segment) (λ s. s.edge) c.in_ok-spans.spans.items c.as_slice.result.now c.as_slice.ensures.value
    c.in_ok-spans.ensures.of_edges c.in_ok-spans.ensures.every c.first_flat-flat.result c.counted_least.result c.first_flat-flat.ensures c.counted_least.ensures.from
    c.counted_least.ensures.kept c.counted_least.ensures.tested
