use Rattle.std.proofs.Common.{◌≤◌, map, subst, arith, length}
use Rattle.std.specs.Prelude.{Contains}
use Rattle.std.proofs.lemmas.List.{length-map, take_all}
use Rattle.plane.proofs.Members.{in_nil}
use Rattle.scaled_plane.specs.declared.point.Segment.{Segment}
use Rattle.arrangement.specs.Found.{IsCrossedBy, HasCrossing}
use Rattle.arrangement.proofs.Growing.{ends_kept, grows_not}
use Rattle.arrangement.proofs.Listed.{seen_at, seen_within}
use Rattle.arrangement.proofs.Looping.{read_in, grows_with, has_with}
use Rattle.arrangement.proofs.sweep.cross_with.Goals as goal

pub loop-next-init : goal.loop-next-init
loop-next-init g c = record {
  grows = grows_not g.W.Whole.numbers.ring (IsCrossedBy g.W.Whole.numbers.ring c.args.s (map (λ t. t.segment) c.args.near.now)) (map (λ v. v.point) c.args.found.now.keys);
  has = λ t there. absurd (in_nil t there);
  counted = omega arith;
  few = c.requires.few;
}

pub cross_pair-requires-clause-first_ends : goal.cross_pair-requires-clause-first_ends
cross_pair-requires-clause-first_ends g c =
    ends_kept g.W.Whole.numbers.ring (IsCrossedBy g.W.Whole.numbers.ring c.args.s (map (λ t. t.segment) c.args.near.now)) (map (λ v. v.point) c.args.found.now.keys) (map (λ v. v.point) c.loop-next.found.keys) c.args.s
    c.loop-next.invariant.grows c.requires.first_ends

pub cross_pair-requires-clause-second_ends : goal.cross_pair-requires-clause-second_ends
cross_pair-requires-clause-second_ends g c =
    let xs = map (λ t. t.segment) c.args.near.now in
    let x = c.next-item.result.segment in
    ends_kept g.W.Whole.numbers.ring (IsCrossedBy g.W.Whole.numbers.ring c.args.s xs) (map (λ v. v.point) c.args.found.now.keys) (map (λ v. v.point) c.loop-next.found.keys) x
    c.loop-next.invariant.grows
    (c.requires.other_ends x
    (read_in xs c.loop-next.next-index x (seen_within (λ t. t.segment) c.args.near.now c.loop-next.next-index c.loop-next-test.true) (seen_at (λ t. t.segment) c.args.near.now c.loop-next.next-index c.next-item.result c.loop-next-test.true c.next-item.is)))

pub returns-in_err-cross_pair-clause-grows : goal.returns-in_err-cross_pair-clause-grows
returns-in_err-cross_pair-clause-grows g c =
    let xs = map (λ t. t.segment) c.args.near.now in
    grows_with g.W.Whole.numbers.ring c.args.s xs c.loop-next.next-index c.next-item.result.segment
    (seen_within (λ t. t.segment) c.args.near.now c.loop-next.next-index c.loop-next-test.true) (seen_at (λ t. t.segment) c.args.near.now c.loop-next.next-index c.next-item.result c.loop-next-test.true c.next-item.is)
    (map (λ v. v.point) c.args.found.now.keys) (map (λ v. v.point) c.loop-next.found.keys) (map (λ v. v.point) c.cross_pair.new.found.keys) c.loop-next.invariant.grows c.cross_pair.ensures.grows

pub loop-next-preserved : goal.loop-next-preserved
loop-next-preserved g c =
    let xs = map (λ t. t.segment) c.args.near.now in
    let x = c.next-item.result.segment in
    let within = seen_within (λ t. t.segment) c.args.near.now c.loop-next.next-index c.loop-next-test.true in
    let is = seen_at (λ t. t.segment) c.args.near.now c.loop-next.next-index c.next-item.result c.loop-next-test.true c.next-item.is in
    record {
      grows = grows_with g.W.Whole.numbers.ring c.args.s xs c.loop-next.next-index x within is
          (map (λ v. v.point) c.args.found.now.keys) (map (λ v. v.point) c.loop-next.found.keys) (map (λ v. v.point) c.cross_pair.new.found.keys) c.loop-next.invariant.grows c.cross_pair.ensures.grows;
      has = has_with g.W.Whole.numbers.ring c.args.s xs c.loop-next.next-index x within is
          (map (λ v. v.point) c.loop-next.found.keys) (map (λ v. v.point) c.cross_pair.new.found.keys) c.cross_pair.ensures.grows c.loop-next.invariant.has c.in_ok-cross_pair.ensures.has;
      counted = omega (arith, c.loop-next.invariant.counted, c.cross_pair.ensures.counted);
      few = c.in_ok-cross_pair.ensures.few;
    }

pub returns-clause-has : goal.returns-clause-has
returns-clause-has g c =
    let xs = map (λ t. t.segment) c.args.near.now in
    let all : length xs ≤ c.loop-next.next-index = let done = c.loop-next-test.false in let same = length-map c.args.near.now (λ t. t.segment) in omega (arith, done, same) in
    subst (λ ts. (t : Segment g.row.W.Denot) → Contains ts t → HasCrossing g.W.Whole.numbers.ring (map (λ v. v.point) c.loop-next.found.keys) c.args.s t)
    (take_all c.loop-next.next-index xs all) c.loop-next.invariant.has
