use Rattle.std.proofs.Common.{map, subst}
use Rattle.std.specs.List.Sorted.{IsPermutation}
use Rattle.std.proofs.lemmas.List.Sorted.{All-permutation, IsPermutation-map}
use Rattle.arrangement.proofs.Sweeping.{sorted_pairs}
use Rattle.sheet_check.specs.Spans.{IsOfEdge, IsSpan}
use Rattle.sheet_check.proofs.span.spans_of.Goals as goal

pub returns-clause-every : goal.returns-clause-every
returns-clause-every g c =
    subst (λ ns. IsPermutation ns (map (λ s. s.edge) c.sort.new.self.items)) c.in_ok-spans.ensures.every
    (IsPermutation-map (λ s. s.edge) c.in_ok-spans.spans.items c.sort.new.self.items c.in_ok-sort.ensures.permutation)

pub returns-clause-spans : goal.returns-clause-spans
returns-clause-spans g c =
    All-permutation (λ s. IsSpan g.W.Whole.numbers s.segment s.left.point s.right.point) c.in_ok-spans.spans.items c.sort.new.self.items c.in_ok-sort.ensures.permutation c.in_ok-spans.ensures.spans

pub returns-clause-of_edges : goal.returns-clause-of_edges
returns-clause-of_edges g c =
    All-permutation (λ s. IsOfEdge g.W.Whole.numbers.ring c.args.vertices.now c.args.edges.now s.segment s.edge) c.in_ok-spans.spans.items c.sort.new.self.items c.in_ok-sort.ensures.permutation
    c.in_ok-spans.ensures.of_edges

pub returns-clause-in_order : goal.returns-clause-in_order
returns-clause-in_order g c = sorted_pairs g.W.Whole.numbers.ring (λ s. s.left.point) (λ s. s.left.is_point) c.sort.new.self.items c.in_ok-sort.ensures.sorted
