use Rattle.std.proofs.Common.{map, subst, arith, length, ◌≤◌}
use Rattle.std.specs.Prelude.{Contains}
use Rattle.std.proofs.lemmas.List.{length-map, take_all}
use Rattle.plane.proofs.Members.{in_nil}
use Rattle.scaled_plane.specs.declared.point.Segment.{Segment}
use Rattle.arrangement.specs.Found.{HasEnds, IsEndIn}
use Rattle.arrangement.proofs.Growing.{grows_not}
use Rattle.arrangement.proofs.Listed.{seen_at, seen_within}
use Rattle.arrangement.proofs.Looping.{read_in, grows_in, ends_more}
use Rattle.arrangement.proofs.found.add_ends.Goals as goal

pub loop-span-init : goal.loop-span-init
loop-span-init g c = record {
  grows = grows_not g.W.Whole.numbers.ring (IsEndIn g.W.Whole.numbers.ring (map (λ s. s.segment) c.args.spans.now)) (map (λ v. v.point) c.args.found.now.keys);
  has = λ s there. absurd (in_nil s there);
  few = c.requires.few;
}

pub returns-in_err-add_both-clause-grows : goal.returns-in_err-add_both-clause-grows
returns-in_err-add_both-clause-grows g c =
    let xs = map (λ s. s.segment) c.args.spans.now in
    let x = c.span-item.result.segment in
    grows_in g.W.Whole.numbers.ring x xs
    (read_in xs c.loop-span.span-index x (seen_within (λ s. s.segment) c.args.spans.now c.loop-span.span-index c.loop-span-test.true) (seen_at (λ s. s.segment) c.args.spans.now c.loop-span.span-index c.span-item.result c.loop-span-test.true c.span-item.is))
    (map (λ v. v.point) c.args.found.now.keys) (map (λ v. v.point) c.loop-span.found.keys) (map (λ v. v.point) c.add_both.new.found.keys) c.loop-span.invariant.grows c.add_both.ensures.grows

pub loop-span-preserved : goal.loop-span-preserved
loop-span-preserved g c =
    let xs = map (λ s. s.segment) c.args.spans.now in
    let x = c.span-item.result.segment in
    let within = seen_within (λ s. s.segment) c.args.spans.now c.loop-span.span-index c.loop-span-test.true in
    let is = seen_at (λ s. s.segment) c.args.spans.now c.loop-span.span-index c.span-item.result c.loop-span-test.true c.span-item.is in
    record {
      grows = grows_in g.W.Whole.numbers.ring x xs (read_in xs c.loop-span.span-index x within is)
          (map (λ v. v.point) c.args.found.now.keys) (map (λ v. v.point) c.loop-span.found.keys) (map (λ v. v.point) c.add_both.new.found.keys) c.loop-span.invariant.grows c.add_both.ensures.grows;
      has = ends_more g.W.Whole.numbers.ring xs c.loop-span.span-index x within is
          (map (λ v. v.point) c.loop-span.found.keys) (map (λ v. v.point) c.add_both.new.found.keys) c.add_both.ensures.grows c.loop-span.invariant.has c.in_ok-add_both.ensures.has;
      few = c.in_ok-add_both.ensures.few;
    }

pub returns-clause-has : goal.returns-clause-has
returns-clause-has g c =
    let xs = map (λ s. s.segment) c.args.spans.now in
    let all : length xs ≤ c.loop-span.span-index = let done = c.loop-span-test.false in let same = length-map c.args.spans.now (λ s. s.segment) in omega (arith, done, same) in
    subst (λ ss. (s : Segment g.row.W.Denot) → Contains ss s → HasEnds g.W.Whole.numbers.ring (map (λ v. v.point) c.loop-span.found.keys) s)
    (take_all c.loop-span.span-index xs all) c.loop-span.invariant.has
