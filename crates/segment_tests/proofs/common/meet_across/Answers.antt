use Rattle.std.proofs.Common.{◌∙◌, sym}
use Rattle.plane.specs.Lines.{AreApart, side}
use Rattle.scaled_plane.proofs.DrawnSizes.{scaled_point}
use Rattle.segment_tests.proofs.Touching.{none_common, moved_apart, refuted}
use Rattle.segment_tests.proofs.common.meet_across.Goals as goal

pub returns-then-not-are_apart : goal.returns-then-not-are_apart
returns-then-not-are_apart g c =
    let n = g.W.Whole.numbers in
    let s = c.args.s in
    let t = c.args.t in
    let not_apart = refuted c.are_apart.result (AreApart c.args.sides.0 c.args.sides.1) c.if-not-are_apart.true c.are_apart.ensures.1 in
    none_common n.ring s t (scaled_point n s.from c.requires.first.from) (scaled_point n s.to c.requires.first.to)
    (scaled_point n t.from c.requires.second.from) (scaled_point n t.to c.requires.second.to)
    (λ e. c.requires.not_along (c.requires.from_is ∙ e.0, c.requires.to_is ∙ e.1))
    (λ h. not_apart (moved_apart (side n.ring s.from s.to t.from) (side n.ring s.from s.to t.to) c.args.sides.0 c.args.sides.1 (sym c.requires.from_is) (sym c.requires.to_is) h.0))

pub returns-then-not-are_apart-2 : goal.returns-then-not-are_apart-2
returns-then-not-are_apart-2 g c =
    let n = g.W.Whole.numbers in
    let s = c.args.s in
    let t = c.args.t in
    let not_apart = refuted c.are_apart-2.result (AreApart c.orient.result c.orient-2.result) c.if-not-are_apart-2.true c.are_apart-2.ensures.1 in
    none_common n.ring s t (scaled_point n s.from c.requires.first.from) (scaled_point n s.to c.requires.first.to)
    (scaled_point n t.from c.requires.second.from) (scaled_point n t.to c.requires.second.to)
    (λ e. c.requires.not_along (c.requires.from_is ∙ e.0, c.requires.to_is ∙ e.1))
    (λ h. not_apart (moved_apart (side n.ring t.from t.to s.from) (side n.ring t.from t.to s.to) c.orient.result c.orient-2.result (sym c.orient.ensures) (sym c.orient-2.ensures) h.1))
