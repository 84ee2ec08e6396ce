use Rattle.std.proofs.Common.{◌≡◌, subst, arith, take}
use Rattle.std.specs.Prelude.{All}
use Rattle.std.proofs.lemmas.List.{take_all}
use Rattle.arrangement.proofs.Looping.{read_in}
use Rattle.sheet_check.specs.Spans.{AreTested, MeetBeside, MeetsOne, pair_of}
use Rattle.sheet_check.proofs.SweepLemmas.{all_more, all_weaker, comes_on, comes_weaker}
use Rattle.sheet_check.proofs.sweep.test_near.Goals as goal

pub loop-t-preserved : goal.loop-t-preserved
loop-t-preserved g c =
    let K = g.W.Whole.numbers.ring in
    let s = c.args.s.now in
    let near = c.args.near.now in
    let t = c.t-item.result in
    let i = c.loop-t.t-index in
    let found = c.loop-t.found in
    let later = c.test_pair-found.result in
    let kept = c.test_pair-found.ensures.kept in
    record {
      from = comes_on c.args.before found later (MeetsOne K (λ s. s.segment) (λ s. s.edge) s near) c.loop-t.invariant.from
          (comes_weaker found later (λ p. (p ≡ pair_of (λ s. s.edge) s t) × MeetBeside K s.segment t.segment) (MeetsOne K (λ s. s.segment) (λ s. s.edge) s near)
          (λ p m. (t, read_in near i t c.loop-t-test.true c.t-item.is, m.0, m.1)) c.test_pair-found.ensures.from);
      kept = λ p h. kept p (c.loop-t.invariant.kept p h);
      tested = all_more (AreTested K (λ s. s.segment) (λ s. s.edge) later s) near i t c.loop-t-test.true c.t-item.is
          (all_weaker (AreTested K (λ s. s.segment) (λ s. s.edge) found s) (AreTested K (λ s. s.segment) (λ s. s.edge) later s) (take i near)
          (λ x h m. kept (pair_of (λ s. s.edge) s x) (h m)) c.loop-t.invariant.tested)
          c.test_pair-found.ensures.tested;
    }

pub returns-clause-tested : goal.returns-clause-tested
returns-clause-tested g c =
    subst (All (AreTested g.W.Whole.numbers.ring (λ s. s.segment) (λ s. s.edge) c.loop-t.found c.args.s.now))
    (take_all c.loop-t.t-index c.args.near.now (let done = c.loop-t-test.false in omega (arith, done))) c.loop-t.invariant.tested
