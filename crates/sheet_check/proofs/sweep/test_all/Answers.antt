use Rattle.std.proofs.Common.{◌-◌, ◌+◌, drop, length, take}
use Rattle.std.proofs.lemmas.List.{take_rest}
use Rattle.sheet_check.specs.Spans.{MeetTwo, MeetsOne}
use Rattle.sheet_check.proofs.SweepLemmas.{comes_on, comes_weaker, tested_more, two_of}
use Rattle.sheet_check.proofs.sweep.test_all.Goals as goal

pub loop-place-preserved : goal.loop-place-preserved
loop-place-preserved g c =
    let K = g.W.Whole.numbers.ring in
    let spans = c.args.spans.now in
    let place = c.loop-place.place in
    let s = c.index-spans-place.result in
    let less = c.loop-place-test.true in
    let is = c.index-spans-place.is in
    let found = c.loop-place.found in
    let later = c.test_span-found.result in
    let kept = c.test_span-found.ensures.kept in
    let rest = take (length spans - (place + 1)) (drop (place + 1) spans) in
    let rest_is = take_rest spans (place + 1) in
    record {
      from = comes_on c.args.before found later (MeetTwo K (λ s. s.segment) (λ s. s.edge) spans) c.loop-place.invariant.from
          (comes_weaker found later (MeetsOne K (λ s. s.segment) (λ s. s.edge) s rest) (MeetTwo K (λ s. s.segment) (λ s. s.edge) spans)
          (two_of K (λ s. s.segment) (λ s. s.edge) spans place s less is rest rest_is c.requires.different) c.test_span-found.ensures.from);
      kept = λ p h. kept p (c.loop-place.invariant.kept p h);
      tested = tested_more K (λ s. s.segment) (λ s. s.edge) spans place s less is rest rest_is found later kept c.loop-place.invariant.tested c.test_span-found.ensures.tested;
    }
