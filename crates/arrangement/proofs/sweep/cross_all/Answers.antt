use Rattle.std.proofs.Common.{◌∙◌, map, arith, ap, sym, subst, refl, ◌+◌, ◌-◌, length, take, drop}
use Rattle.std.specs.Prelude.{All, AllPairs, IsTrue}
use Rattle.std.specs.Ordering.{is_le}
use Rattle.std.proofs.lemmas.List.{drop-map, length-map, take_rest}
use Rattle.plane.specs.Points.{point_order}
use Rattle.arrangement.specs.Found.{IsCrossedIn}
use Rattle.arrangement.proofs.Growing.{ends_kept, grows_not}
use Rattle.arrangement.proofs.Listed.{seen_at, seen_within}
use Rattle.arrangement.proofs.Looping.{read_in, in_all, grows_all, has_all, pairs_more, pairs_within}
use Rattle.arrangement.proofs.Sweeping.{pairs_first, pairs_rest}
use Rattle.arrangement.proofs.sweep.cross_all.Goals as goal

pub loop-place-init : goal.loop-place-init
loop-place-init g c = record {
  grows = grows_not g.W.Whole.numbers.ring (IsCrossedIn g.W.Whole.numbers.ring (map (λ s. s.segment) c.args.spans.now)) (map (λ v. v.point) c.args.found.now.keys);
  has = λ i j d less next within. absurd (omega (arith, less));
  begun = omega arith;
  counted = refl;
  few = c.requires.few;
}

pub cross_near-requires-clause-first : goal.cross_near-requires-clause-first
cross_near-requires-clause-first g c =
    subst (All (λ t. IsTrue (is_le (point_order g.W.Whole.numbers.ring c.index-spans-place.result.left.point t.left.point)))) (sym (take_rest c.args.spans.now (c.loop-place.place + 1)))
    (pairs_first (λ s t. IsTrue (is_le (point_order g.W.Whole.numbers.ring s.left.point t.left.point))) c.args.spans.now c.loop-place.place c.index-spans-place.result c.loop-place-test.true c.index-spans-place.is c.requires.in_order)

pub cross_near-requires-clause-in_order : goal.cross_near-requires-clause-in_order
cross_near-requires-clause-in_order g c =
    subst (AllPairs (λ s t. IsTrue (is_le (point_order g.W.Whole.numbers.ring s.left.point t.left.point)))) (sym (take_rest c.args.spans.now (c.loop-place.place + 1)))
    (pairs_rest (λ s t. IsTrue (is_le (point_order g.W.Whole.numbers.ring s.left.point t.left.point))) c.args.spans.now (c.loop-place.place + 1) c.requires.in_order)

pub cross_near-requires-clause-first_ends : goal.cross_near-requires-clause-first_ends
cross_near-requires-clause-first_ends g c =
    let xs = map (λ s. s.segment) c.args.spans.now in
    let x = c.index-spans-place.result.segment in
    let within = seen_within (λ s. s.segment) c.args.spans.now c.loop-place.place c.loop-place-test.true in
    let is = seen_at (λ s. s.segment) c.args.spans.now c.loop-place.place c.index-spans-place.result c.loop-place-test.true c.index-spans-place.is in
    let rest = take (length c.args.spans.now - (c.loop-place.place + 1)) (drop (c.loop-place.place + 1) c.args.spans.now) in
    let r = map (λ s. s.segment) rest in
    let here = ap (map (λ s. s.segment)) (take_rest c.args.spans.now (c.loop-place.place + 1)) ∙ sym (drop-map (λ s. s.segment) (c.loop-place.place + 1) c.args.spans.now) in
    ends_kept g.W.Whole.numbers.ring (IsCrossedIn g.W.Whole.numbers.ring xs) (map (λ v. v.point) c.args.found.now.keys) (map (λ v. v.point) c.loop-place.found.keys) x
    c.loop-place.invariant.grows (c.requires.ends x (read_in xs c.loop-place.place x within is))

pub cross_near-requires-clause-other_ends : goal.cross_near-requires-clause-other_ends
cross_near-requires-clause-other_ends g c = λ t there.
    let xs = map (λ s. s.segment) c.args.spans.now in
    let x = c.index-spans-place.result.segment in
    let within = seen_within (λ s. s.segment) c.args.spans.now c.loop-place.place c.loop-place-test.true in
    let is = seen_at (λ s. s.segment) c.args.spans.now c.loop-place.place c.index-spans-place.result c.loop-place-test.true c.index-spans-place.is in
    let rest = take (length c.args.spans.now - (c.loop-place.place + 1)) (drop (c.loop-place.place + 1) c.args.spans.now) in
    let r = map (λ s. s.segment) rest in
    let here = ap (map (λ s. s.segment)) (take_rest c.args.spans.now (c.loop-place.place + 1)) ∙ sym (drop-map (λ s. s.segment) (c.loop-place.place + 1) c.args.spans.now) in
    ends_kept g.W.Whole.numbers.ring (IsCrossedIn g.W.Whole.numbers.ring xs) (map (λ v. v.point) c.args.found.now.keys) (map (λ v. v.point) c.loop-place.found.keys) t
    c.loop-place.invariant.grows (c.requires.ends t (in_all g.W.Whole.numbers.ring xs c.loop-place.place x within is r here t there))

pub returns-in_err-cross_near-clause-grows : goal.returns-in_err-cross_near-clause-grows
returns-in_err-cross_near-clause-grows g c =
    let xs = map (λ s. s.segment) c.args.spans.now in
    let x = c.index-spans-place.result.segment in
    let within = seen_within (λ s. s.segment) c.args.spans.now c.loop-place.place c.loop-place-test.true in
    let is = seen_at (λ s. s.segment) c.args.spans.now c.loop-place.place c.index-spans-place.result c.loop-place-test.true c.index-spans-place.is in
    let rest = take (length c.args.spans.now - (c.loop-place.place + 1)) (drop (c.loop-place.place + 1) c.args.spans.now) in
    let r = map (λ s. s.segment) rest in
    let here = ap (map (λ s. s.segment)) (take_rest c.args.spans.now (c.loop-place.place + 1)) ∙ sym (drop-map (λ s. s.segment) (c.loop-place.place + 1) c.args.spans.now) in
    grows_all g.W.Whole.numbers.ring xs c.loop-place.place x within is r here (map (λ v. v.point) c.args.found.now.keys) (map (λ v. v.point) c.loop-place.found.keys) (map (λ v. v.point) c.cross_near.new.found.keys) c.loop-place.invariant.grows c.cross_near.ensures.grows

pub returns-in_err-cross_near-clause-counted_at_most : goal.returns-in_err-cross_near-clause-counted_at_most
returns-in_err-cross_near-clause-counted_at_most g c =
    let xs = map (λ s. s.segment) c.args.spans.now in
    let x = c.index-spans-place.result.segment in
    let within = seen_within (λ s. s.segment) c.args.spans.now c.loop-place.place c.loop-place-test.true in
    let is = seen_at (λ s. s.segment) c.args.spans.now c.loop-place.place c.index-spans-place.result c.loop-place-test.true c.index-spans-place.is in
    let rest = take (length c.args.spans.now - (c.loop-place.place + 1)) (drop (c.loop-place.place + 1) c.args.spans.now) in
    let r = map (λ s. s.segment) rest in
    let here = ap (map (λ s. s.segment)) (take_rest c.args.spans.now (c.loop-place.place + 1)) ∙ sym (drop-map (λ s. s.segment) (c.loop-place.place + 1) c.args.spans.now) in
    pairs_within g.W.Whole.numbers.ring xs c.loop-place.place x within is r here c.args.steps.now c.loop-place.steps c.cross_near.new.steps c.loop-place.invariant.begun c.loop-place.invariant.counted c.cross_near.ensures.counted_at_most

pub loop-place-preserved : goal.loop-place-preserved
loop-place-preserved g c =
    let xs = map (λ s. s.segment) c.args.spans.now in
    let x = c.index-spans-place.result.segment in
    let within = seen_within (λ s. s.segment) c.args.spans.now c.loop-place.place c.loop-place-test.true in
    let is = seen_at (λ s. s.segment) c.args.spans.now c.loop-place.place c.index-spans-place.result c.loop-place-test.true c.index-spans-place.is in
    let rest = take (length c.args.spans.now - (c.loop-place.place + 1)) (drop (c.loop-place.place + 1) c.args.spans.now) in
    let r = map (λ s. s.segment) rest in
    let here = ap (map (λ s. s.segment)) (take_rest c.args.spans.now (c.loop-place.place + 1)) ∙ sym (drop-map (λ s. s.segment) (c.loop-place.place + 1) c.args.spans.now) in
    record {
      grows = grows_all g.W.Whole.numbers.ring xs c.loop-place.place x within is r here (map (λ v. v.point) c.args.found.now.keys) (map (λ v. v.point) c.loop-place.found.keys) (map (λ v. v.point) c.cross_near.new.found.keys) c.loop-place.invariant.grows c.cross_near.ensures.grows;
      has = has_all g.W.Whole.numbers.ring xs c.loop-place.place x within is r here (map (λ v. v.point) c.loop-place.found.keys) (map (λ v. v.point) c.cross_near.new.found.keys) c.cross_near.ensures.grows c.loop-place.invariant.has c.in_ok-cross_near.ensures.has;
      begun = (let low = c.cross_near.ensures.counted_at_most.0 in let before = c.loop-place.invariant.begun in omega (arith, low, before));
      counted = pairs_more g.W.Whole.numbers.ring xs c.loop-place.place x within is r here c.args.steps.now c.loop-place.steps c.cross_near.new.steps c.loop-place.invariant.counted c.in_ok-cross_near.ensures.counted;
      few = c.in_ok-cross_near.ensures.few;
    }

pub returns-clause-has : goal.returns-clause-has
returns-clause-has g c = λ i j d less within.
    (let done = c.loop-place-test.false in let same = length-map c.args.spans.now (λ s. s.segment) in c.loop-place.invariant.has i j d (omega (arith, done, less, within, same)) less within)
