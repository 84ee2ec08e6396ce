use Rattle.scaled_plane.proofs.DrawnSizes.{scaled_point}
use Rattle.sheet_check.proofs.CommonPoints.{inside_answer}
use Rattle.sheet_check.proofs.meeting.lies_inside.Goals as goal

pub returns : goal.returns
returns g c =
    let N = g.W.Whole.numbers in
    let s = c.args.s in
    inside_answer N.ring s.from s.to c.args.p (scaled_point N s.from c.requires.segment.from) (scaled_point N s.to c.requires.segment.to) (scaled_point N c.args.p c.requires.point)
    c.requires.proper c.is_between.result c.orient-side.result c.compare_points-first.result c.compare_points-second.result
    c.orient-side.ensures c.compare_points-first.ensures c.compare_points-second.ensures c.is_between.ensures
