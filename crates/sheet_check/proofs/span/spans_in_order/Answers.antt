use Rattle.std.proofs.Common.{subst, sym, map, ◌∙◌, ap, [], ◌∷◌, ◌++◌, ◌≡◌}
use Rattle.std.specs.Prelude.{All}
use Rattle.std.proofs.lemmas.List.{map_push}
use Rattle.std.proofs.lemmas.List.Elements.{All-push}
use Rattle.sheet_check.specs.Spans.{IsOfEdge, IsSpan, up_to}
use Rattle.sheet_check.proofs.SpanLemmas.{edge_within, of_edge, up_to_more}
use Rattle.sheet_check.proofs.span.spans_in_order.Goals as goal

pub span_of-requires-clause-from : goal.span_of-requires-clause-from
span_of-requires-clause-from g c = (edge_within _ c.args.edges.now c.loop-edge.edge _ c.requires.ends c.loop-edge-test.true).0

pub span_of-requires-clause-to : goal.span_of-requires-clause-to
span_of-requires-clause-to g c = (edge_within _ c.args.edges.now c.loop-edge.edge _ c.requires.ends c.loop-edge-test.true).1

pub loop-edge-preserved : goal.loop-edge-preserved
loop-edge-preserved g c =
    let N = g.W.Whole.numbers in
    let old = c.loop-edge.spans.items in
    let new = c.push.new.self.items in
    let span = c.span_of.result in
    let items : new ≡ old ++ span ∷ [] = c.in_ok-push.ensures.items in
    record {
      spans = subst (All (λ s. IsSpan N s.segment s.left.point s.right.point)) (sym items)
          (All-push (λ s. IsSpan N s.segment s.left.point s.right.point) old span c.loop-edge.invariant.spans c.span_of.ensures.span);
      of_edges = subst (All (λ s. IsOfEdge N.ring c.args.vertices.now c.args.edges.now s.segment s.edge)) (sym items)
          (All-push (λ s. IsOfEdge N.ring c.args.vertices.now c.args.edges.now s.segment s.edge) old span c.loop-edge.invariant.of_edges
          (of_edge N.ring c.args.vertices.now c.args.edges.now span.segment c.loop-edge.edge span.edge _ c.loop-edge-test.true c.span_of.ensures.number c.span_of.ensures.from_is c.span_of.ensures.to_is));
      every = ap (map (λ s. s.edge)) items ∙ map_push (λ s. s.edge) old span ∙ ap (λ ns. ns ++ span.edge ∷ []) c.loop-edge.invariant.every
          ∙ ap (λ n. up_to c.loop-edge.edge ++ n ∷ []) c.span_of.ensures.number ∙ sym (up_to_more c.loop-edge.edge);
    }
