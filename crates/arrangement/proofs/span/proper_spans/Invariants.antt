use Rattle.std.proofs.Common.{◌≡◌, take, map}
use Rattle.std.specs.Prelude.{All, filter}
use Rattle.arrangement.specs.Spans.{IsSpan, is_proper}
use Rattle.arrangement.proofs.span.proper_spans.Given as goal

abbrev pub invariant-loop-segment : goal.invariant-loop-segment
invariant-loop-segment g l = record {
  same : map (λ s. s.segment) l.spans.items ≡ filter (is_proper g.W.Whole.numbers.ring) (take l.segment-index l.segments);
  spans : All (λ s. IsSpan g.W.Whole.numbers s.segment s.left.point s.right.point) l.spans.items;
}
