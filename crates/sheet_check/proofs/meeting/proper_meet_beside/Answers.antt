use Rattle.scaled_plane.proofs.DrawnSizes.{scaled_point}
use Rattle.sheet_check.proofs.CommonPoints.{along_meets, cross_meets, touch_meets}
use Rattle.sheet_check.proofs.meeting.proper_meet_beside.Goals as goal

pub returns-in-Touches-clause-meet : goal.returns-in-Touches-clause-meet
returns-in-Touches-clause-meet g c =
    let N = g.W.Whole.numbers in
    let s = c.args.s in
    let t = c.args.t in
    (touch_meets N.ring s t (scaled_point N s.from c.requires.first.from) (scaled_point N s.to c.requires.first.to) (scaled_point N t.from c.requires.second.from) (scaled_point N t.to c.requires.second.to)
    c.in-Touches.point c.in-Touches.ensures.common c.is_end_of_both.result c.is_end_of_both.ensures).0

pub returns-in-Touches-clause-none : goal.returns-in-Touches-clause-none
returns-in-Touches-clause-none g c =
    let N = g.W.Whole.numbers in
    let s = c.args.s in
    let t = c.args.t in
    (touch_meets N.ring s t (scaled_point N s.from c.requires.first.from) (scaled_point N s.to c.requires.first.to) (scaled_point N t.from c.requires.second.from) (scaled_point N t.to c.requires.second.to)
    c.in-Touches.point c.in-Touches.ensures.common c.is_end_of_both.result c.is_end_of_both.ensures).1

pub returns-in-Crosses-clause-meet : goal.returns-in-Crosses-clause-meet
returns-in-Crosses-clause-meet g c =
    let N = g.W.Whole.numbers in
    let s = c.args.s in
    let t = c.args.t in
    cross_meets N.ring s t (scaled_point N s.from c.requires.first.from) (scaled_point N s.to c.requires.first.to) (scaled_point N t.from c.requires.second.from) (scaled_point N t.to c.requires.second.to)
    c.in-Crosses.field-0 c.in-Crosses.ensures.common

pub returns-in-Along-clause-meet : goal.returns-in-Along-clause-meet
returns-in-Along-clause-meet g c =
    let N = g.W.Whole.numbers in
    let s = c.args.s in
    let t = c.args.t in
    along_meets N.ring s t (scaled_point N s.from c.requires.first.from) (scaled_point N s.to c.requires.first.to) (scaled_point N t.from c.requires.second.from) (scaled_point N t.to c.requires.second.to)
    c.requires.first_proper c.in-Along.field-0 c.in-Along.field-1 c.in-Along.ensures.common
