use Rattle.std.proofs.Common.{◌∙◌, sym}
use Rattle.scaled_plane.proofs.DrawnSizes.{scaled_point}
use Rattle.segment_tests.proofs.Stretches.{stretch_along, stretch_touching, stretch_apart}
use Rattle.segment_tests.proofs.stretch.meet_along.Goals as goal

pub returns-in-Less : goal.returns-in-Less
returns-in-Less g c =
    let n = g.W.Whole.numbers in
    let s = c.args.s in
    let t = c.args.t in
    stretch_along n.ring s t c.ordered.result.0 c.ordered.result.1 c.ordered-2.result.0 c.ordered-2.result.1 c.later-low.result c.earlier-high.result
    c.ordered.ensures.ends c.ordered-2.ensures.ends
    (scaled_point n s.from c.requires.first.from) (scaled_point n s.to c.requires.first.to)
    (scaled_point n t.from c.requires.second.from) (scaled_point n t.to c.requires.second.to)
    c.ordered.ensures.order c.ordered-2.ensures.order c.requires.from_along c.requires.to_along
    (record {
      low_is = c.later-low.ensures.is;
      from_a = c.later-low.ensures.first;
      from_c = c.later-low.ensures.second;
      high_is = c.earlier-high.ensures.is;
      to_b = c.earlier-high.ensures.first;
      to_d = c.earlier-high.ensures.second;
    })
    (sym c.compare_points.ensures ∙ c.in-Less.is)

pub returns-in-Equal : goal.returns-in-Equal
returns-in-Equal g c =
    let n = g.W.Whole.numbers in
    let s = c.args.s in
    let t = c.args.t in
    stretch_touching n.ring s t c.ordered.result.0 c.ordered.result.1 c.ordered-2.result.0 c.ordered-2.result.1 c.later-low.result c.earlier-high.result
    c.ordered.ensures.ends c.ordered-2.ensures.ends
    (scaled_point n s.from c.requires.first.from) (scaled_point n s.to c.requires.first.to)
    (scaled_point n t.from c.requires.second.from) (scaled_point n t.to c.requires.second.to)
    c.ordered.ensures.order c.ordered-2.ensures.order c.requires.from_along c.requires.to_along
    (record {
      low_is = c.later-low.ensures.is;
      from_a = c.later-low.ensures.first;
      from_c = c.later-low.ensures.second;
      high_is = c.earlier-high.ensures.is;
      to_b = c.earlier-high.ensures.first;
      to_d = c.earlier-high.ensures.second;
    })
    (sym c.compare_points.ensures ∙ c.in-Equal.is)

pub returns-in-Greater : goal.returns-in-Greater
returns-in-Greater g c =
    let n = g.W.Whole.numbers in
    let s = c.args.s in
    let t = c.args.t in
    stretch_apart n.ring s t c.ordered.result.0 c.ordered.result.1 c.ordered-2.result.0 c.ordered-2.result.1 c.later-low.result c.earlier-high.result
    c.ordered.ensures.ends c.ordered-2.ensures.ends
    (scaled_point n s.from c.requires.first.from) (scaled_point n s.to c.requires.first.to)
    (scaled_point n t.from c.requires.second.from) (scaled_point n t.to c.requires.second.to)
    c.ordered.ensures.order c.ordered-2.ensures.order c.requires.from_along c.requires.to_along
    (record {
      low_is = c.later-low.ensures.is;
      from_a = c.later-low.ensures.first;
      from_c = c.later-low.ensures.second;
      high_is = c.earlier-high.ensures.is;
      to_b = c.earlier-high.ensures.first;
      to_d = c.earlier-high.ensures.second;
    })
    (sym c.compare_points.ensures ∙ c.in-Greater.is)
