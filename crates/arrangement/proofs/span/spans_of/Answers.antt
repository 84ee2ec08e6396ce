use Rattle.std.proofs.Common.{map, subst}
use Rattle.std.specs.List.Sorted.{IsPermutation}
use Rattle.std.proofs.lemmas.List.Sorted.{All-permutation, IsPermutation-map}
use Rattle.arrangement.specs.Spans.{IsSpan}
use Rattle.arrangement.proofs.Sweeping.{sorted_pairs}
use Rattle.arrangement.proofs.span.spans_of.Goals as goal

pub returns-clause-same : goal.returns-clause-same
returns-clause-same g c =
    subst (λ xs. IsPermutation xs (map (λ s. s.segment) c.sort.new.self.items)) c.in_ok-spans.ensures.same
    (IsPermutation-map (λ s. s.segment) c.in_ok-spans.spans.items c.sort.new.self.items c.in_ok-sort.ensures.permutation)

pub returns-clause-spans : goal.returns-clause-spans
returns-clause-spans g c =
    All-permutation (λ s. IsSpan g.W.Whole.numbers s.segment s.left.point s.right.point) c.in_ok-spans.spans.items c.sort.new.self.items c.in_ok-sort.ensures.permutation c.in_ok-spans.ensures.spans

pub returns-clause-in_order : goal.returns-clause-in_order
returns-clause-in_order g c = sorted_pairs g.W.Whole.numbers.ring (λ s. s.left.point) (λ s. s.left.is_point) c.sort.new.self.items c.in_ok-sort.ensures.sorted
