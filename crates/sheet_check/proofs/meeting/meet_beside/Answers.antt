use Rattle.scaled_plane.proofs.DrawnSizes.{scaled_point}
use Rattle.sheet_check.proofs.CommonPoints.{flat_meets, meets_flat}
use Rattle.sheet_check.proofs.meeting.meet_beside.Goals as goal

pub returns-then-is_same-clause-meet : goal.returns-then-is_same-clause-meet
returns-then-is_same-clause-meet g c =
    let N = g.W.Whole.numbers in
    (flat_meets N.ring c.args.s c.args.t (scaled_point N c.args.s.from c.requires.first.from) (c.is_same.ensures.0 c.if-is_same.true) c.lies_beside_ends.result c.lies_beside_ends.ensures).0

pub returns-then-is_same-2-clause-meet : goal.returns-then-is_same-2-clause-meet
returns-then-is_same-2-clause-meet g c =
    let N = g.W.Whole.numbers in
    (meets_flat N.ring c.args.s c.args.t (scaled_point N c.args.t.from c.requires.second.from) (c.is_same-else-is_same.ensures.0 c.if-is_same-2.true) c.lies_beside_ends-then-is_same-2.result c.lies_beside_ends-then-is_same-2.ensures).0

pub returns-then-is_same-clause-none : goal.returns-then-is_same-clause-none
returns-then-is_same-clause-none g c =
    let N = g.W.Whole.numbers in
    (flat_meets N.ring c.args.s c.args.t (scaled_point N c.args.s.from c.requires.first.from) (c.is_same.ensures.0 c.if-is_same.true) c.lies_beside_ends.result c.lies_beside_ends.ensures).1

pub returns-then-is_same-2-clause-none : goal.returns-then-is_same-2-clause-none
returns-then-is_same-2-clause-none g c =
    let N = g.W.Whole.numbers in
    (meets_flat N.ring c.args.s c.args.t (scaled_point N c.args.t.from c.requires.second.from) (c.is_same-else-is_same.ensures.0 c.if-is_same-2.true) c.lies_beside_ends-then-is_same-2.result c.lies_beside_ends-then-is_same-2.ensures).1
