use Rattle.std.proofs.Common.{inr}
use Rattle.std.specs.Int.{w128}
use Rattle.std.proofs.lemmas.Int.{to_z-of_z}
use Rattle.scaled_plane.proofs.DrawnSizes.{drawn_point, drawn_size, small_size}
use Rattle.scaled_plane.proofs.exact.exact_point.Goals as goal

pub coordinate-requires-clause-above_zero : goal.coordinate-requires-clause-above_zero
coordinate-requires-clause-above_zero g c = drawn_point g.N.Ring.Whole.numbers c.args.p c.requires.drawn

pub coordinate-requires-clause-x_small : goal.coordinate-requires-clause-x_small
coordinate-requires-clause-x_small g c = (drawn_size g.N.Ring.Whole.numbers g.met.N.Ring.Whole.at_most_three c.args.p c.requires.drawn).x_within

pub coordinate-requires-clause-w_small : goal.coordinate-requires-clause-w_small
coordinate-requires-clause-w_small g c = (drawn_size g.N.Ring.Whole.numbers g.met.N.Ring.Whole.at_most_three c.args.p c.requires.drawn).w_within

pub coordinate-requires-2-clause-above_zero : goal.coordinate-requires-2-clause-above_zero
coordinate-requires-2-clause-above_zero g c = drawn_point g.N.Ring.Whole.numbers c.args.p c.requires.drawn

pub coordinate-requires-2-clause-x_small : goal.coordinate-requires-2-clause-x_small
coordinate-requires-2-clause-x_small g c = (drawn_size g.N.Ring.Whole.numbers g.met.N.Ring.Whole.at_most_three c.args.p c.requires.drawn).y_within

pub coordinate-requires-2-clause-w_small : goal.coordinate-requires-2-clause-w_small
coordinate-requires-2-clause-w_small g c = (drawn_size g.N.Ring.Whole.numbers g.met.N.Ring.Whole.at_most_three c.args.p c.requires.drawn).w_within

pub returns-in_err-x-clause-small : goal.returns-in_err-x-clause-small
returns-in_err-x-clause-small g c = λ small within.
    let sizes = small_size g.N.Ring.Whole.numbers g.met.N.Ring.Whole.at_most_three c.args.p small in
    let no = (rw (to_z-of_z w128 c.args.common c.ranges.common) at c.in_err-x.ensures.small) sizes.x_within sizes.w_within within in absurd (cc)

pub returns-in_err-y-clause-small : goal.returns-in_err-y-clause-small
returns-in_err-y-clause-small g c = λ small within.
    let sizes = small_size g.N.Ring.Whole.numbers g.met.N.Ring.Whole.at_most_three c.args.p small in
    let no = (rw (to_z-of_z w128 c.args.common c.ranges.common) at c.in_err-y.ensures.small) sizes.y_within sizes.w_within within in absurd (cc)

pub returns-in_err-y-clause-answer : goal.returns-in_err-y-clause-answer
returns-in_err-y-clause-answer g c =
    let past = (rw (to_z-of_z w128 c.args.common c.ranges.common) at c.in_err-y.ensures.answer) in rw c.from_residual-in_err-y.ensures (past.0, inr past.1, past.2)

pub returns-clause-answer : goal.returns-clause-answer
returns-clause-answer g c = record {
  x = (rw (to_z-of_z w128 c.args.common c.ranges.common) at c.in_ok-x.ensures.answer).0;
  y = (rw (to_z-of_z w128 c.args.common c.ranges.common) at c.in_ok-y.ensures.answer).0;
  x_narrow = (rw (to_z-of_z w128 c.args.common c.ranges.common) at c.in_ok-x.ensures.answer).1;
  y_narrow = (rw (to_z-of_z w128 c.args.common c.ranges.common) at c.in_ok-y.ensures.answer).1;
}
