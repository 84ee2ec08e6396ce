use Rattle.std.proofs.Common.{◌≡◌, map}
use Rattle.std.specs.Prelude.{All}
use Rattle.sheet_check.specs.Spans.{IsOfEdge, IsSpan, up_to}
use Rattle.sheet_check.proofs.span.spans_in_order.Given as goal

abbrev pub invariant-loop-edge : goal.invariant-loop-edge
invariant-loop-edge g l = record {
  spans : All (λ s. IsSpan g.W.Whole.numbers s.segment s.left.point s.right.point) l.spans.items;
  of_edges : All (λ s. IsOfEdge g.W.Whole.numbers.ring l.vertices l.edges s.segment s.edge) l.spans.items;
  every : map (λ s. s.edge) l.spans.items ≡ up_to l.edge;
}
