use Rattle.std.proofs.Common.{◌≡◌, ◌+◌, arith, map, subst, sym}
use Rattle.scaled_plane.proofs.DrawnSizes.{scaled_point}
use Rattle.arrangement.specs.Covers.{HasCoversBefore, IsLastOn}
use Rattle.arrangement.proofs.Joining.{first_last, none_above, none_below}
use Rattle.arrangement.proofs.Knowing.{all_done, none_yet}
use Rattle.arrangement.proofs.Searching.{all_points}
use Rattle.arrangement.proofs.cutting.cut_segment.Goals as goal

pub loop-place-init : goal.loop-place-init
loop-place-init g c =
    let P = (map (λ v. v.point) c.args.vertices.now) in
    record {
      last = first_last g.W.Whole.numbers.ring P (all_points g.W.Whole.numbers.ring (λ v. v.point) (λ v. v.is_point) c.args.vertices.now) c.requires.sorted c.args.s
          (scaled_point g.W.Whole.numbers c.args.s.from c.requires.usable.from) (scaled_point g.W.Whole.numbers c.args.s.to c.requires.usable.to) c.cut_of-cut.result.ends c.cut_of-cut.ensures.ends;
      covers = λ segments before. none_yet g.W.Whole.numbers.ring P segments c.args.s (c.cut_of-cut.result.ends.0 + 1) c.args.covers.now (none_below g.W.Whole.numbers.ring P (all_points g.W.Whole.numbers.ring (λ v. v.point) (λ v. v.is_point) c.args.vertices.now) c.requires.sorted c.args.s
          (scaled_point g.W.Whole.numbers c.args.s.from c.requires.usable.from) (scaled_point g.W.Whole.numbers c.args.s.to c.requires.usable.to) c.cut_of-cut.result.ends c.cut_of-cut.ensures.ends) before;
    }

pub loop-place-preserved : goal.loop-place-preserved
loop-place-preserved g c =
    let P = (map (λ v. v.point) c.args.vertices.now) in
    record {
      last = subst (λ u. IsLastOn g.W.Whole.numbers.ring P u (c.loop-place.place + 1) c.in_ok-last.last) c.cut_of-cut.ensures.segment c.in_ok-last.ensures.last;
      covers = λ segments before.
          subst (λ u. HasCoversBefore g.W.Whole.numbers.ring P segments u (c.loop-place.place + 1) c.cut_at.new.covers) c.cut_of-cut.ensures.segment
          (c.in_ok-last.ensures.covers segments
          (subst (λ u. HasCoversBefore g.W.Whole.numbers.ring P segments u c.loop-place.place c.loop-place.covers) (sym c.cut_of-cut.ensures.segment) (c.loop-place.invariant.covers segments before)));
    }

pub returns : goal.returns
returns g c = λ segments before.
    let P = (map (λ v. v.point) c.args.vertices.now) in
    let end : c.loop-place.place ≡ c.cut_of-cut.result.ends.1 + 1 = (let done = c.loop-place-test.false in let upto = c.loop-place.auto.place-end in let order = c.cut_of-cut.ensures.ends.in_order in omega (arith, done, upto, order)) in
    all_done g.W.Whole.numbers.ring P segments c.args.s (c.cut_of-cut.result.ends.1 + 1) c.loop-place.covers (none_above g.W.Whole.numbers.ring P (all_points g.W.Whole.numbers.ring (λ v. v.point) (λ v. v.is_point) c.args.vertices.now) c.requires.sorted c.args.s
    (scaled_point g.W.Whole.numbers c.args.s.from c.requires.usable.from) (scaled_point g.W.Whole.numbers c.args.s.to c.requires.usable.to) c.cut_of-cut.result.ends c.cut_of-cut.ensures.ends)
    (subst (λ v. HasCoversBefore g.W.Whole.numbers.ring P segments c.args.s v c.loop-place.covers) end (c.loop-place.invariant.covers segments before))
