use Rattle.std.proofs.Common.{drop, slice_index_or, take}
use Rattle.std.proofs.lemmas.List.Elements.{All-drop, All-take}
use Rattle.scaled_plane.specs.Drawn.{IsScaledSegment}
use Rattle.arrangement.proofs.Sweeping.{in_front}
use Rattle.sheet_check.specs.Spans.{AreTested, IsSpan, MeetsOne}
use Rattle.sheet_check.proofs.SweepLemmas.{all_of_parts, all_weaker, comes_weaker, far_meets}
use Rattle.sheet_check.proofs.sweep.test_span.Goals as goal

pub test_near-requires-clause-others : goal.test_near-requires-clause-others
test_near-requires-clause-others g c =
    let N = g.W.Whole.numbers in
    all_weaker (λ t. IsSpan N t.segment t.left.point t.right.point) (λ t. IsScaledSegment N t.segment) (take c.count_near.result c.args.rest.now) (λ t h. h.scaled)
    (All-take (λ t. IsSpan N t.segment t.left.point t.right.point) c.count_near.result c.args.rest.now c.requires.others)

pub returns-clause-from : goal.returns-clause-from
returns-clause-from g c =
    let K = g.W.Whole.numbers.ring in
    let rest = c.args.rest.now in
    let n = c.count_near.result in
    comes_weaker c.args.before c.test_near.result (MeetsOne K (λ s. s.segment) (λ s. s.edge) c.args.s.now (take n rest)) (MeetsOne K (λ s. s.segment) (λ s. s.edge) c.args.s.now rest)
    (λ p m. (m.0, in_front rest n m.0 m.1, m.2, m.3)) c.test_near.ensures.from

pub returns-clause-tested : goal.returns-clause-tested
returns-clause-tested g c =
    let N = g.W.Whole.numbers in
    let s = c.args.s.now in
    let rest = c.args.rest.now in
    let n = c.count_near.result in
    all_of_parts (AreTested N.ring (λ s. s.segment) (λ s. s.edge) c.test_near.result s) rest n c.test_near.ensures.tested
    (λ k d less m. absurd (far_meets N s.segment (slice_index_or (drop n rest) k d).segment s.left.point s.right.point
    (slice_index_or (drop n rest) k d).left.point (slice_index_or (drop n rest) k d).right.point c.requires.first
    (All-drop (λ t. IsSpan N t.segment t.left.point t.right.point) n rest c.requires.others k d less) (c.count_near.ensures.far k d less) m))
