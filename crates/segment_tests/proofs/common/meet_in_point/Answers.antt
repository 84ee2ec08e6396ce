use Rattle.std.proofs.Common.{◌≡◌, ◌∙◌, sym, refl, inl, inr}
use Rattle.std.specs.declared.cmp.Ordering.TheVariants.{Equal}
use Rattle.plane.specs.Lines.{side}
use Rattle.plane.proofs.Lines.{at_first, at_second}
use Rattle.scaled_plane.proofs.DrawnSizes.{scaled_point}
use Rattle.segment_tests.proofs.Touching.{only_common, not_parallel, cross_common, no_end_of_first, no_end_of_second, moved_apart, refuted, crosses}
use Rattle.segment_tests.proofs.common.meet_in_point.Goals as goal

pub cross_point-requires-clause-not_parallel : goal.cross_point-requires-clause-not_parallel
cross_point-requires-clause-not_parallel g c =
    let n = g.W.Whole.numbers in
    let s = c.args.s in
    let t = c.args.t in
    let not_along : ¬ ((side n.ring s.from s.to t.from ≡ Equal) × (side n.ring s.from s.to t.to ≡ Equal)) = λ e. c.requires.not_along (c.requires.from_is ∙ e.0, c.requires.to_is ∙ e.1) in
    let apart = moved_apart c.args.sides.0 c.args.sides.1 (side n.ring s.from s.to t.from) (side n.ring s.from s.to t.to) c.requires.from_is c.requires.to_is c.requires.apart in
    let back = moved_apart c.args.back.0 c.args.back.1 (side n.ring t.from t.to s.from) (side n.ring t.from t.to s.to) c.requires.back_from_is c.requires.back_to_is c.requires.back_apart in
    not_parallel n.ring s t (scaled_point n s.from c.requires.first.from) (scaled_point n s.to c.requires.first.to)
    (scaled_point n t.from c.requires.second.from) (scaled_point n t.to c.requires.second.to) not_along apart back

pub returns-then-is_level : goal.returns-then-is_level
returns-then-is_level g c =
    let n = g.W.Whole.numbers in
    let s = c.args.s in
    let t = c.args.t in
    let not_along : ¬ ((side n.ring s.from s.to t.from ≡ Equal) × (side n.ring s.from s.to t.to ≡ Equal)) = λ e. c.requires.not_along (c.requires.from_is ∙ e.0, c.requires.to_is ∙ e.1) in
    let apart = moved_apart c.args.sides.0 c.args.sides.1 (side n.ring s.from s.to t.from) (side n.ring s.from s.to t.to) c.requires.from_is c.requires.to_is c.requires.apart in
    let back = moved_apart c.args.back.0 c.args.back.1 (side n.ring t.from t.to s.from) (side n.ring t.from t.to s.to) c.requires.back_from_is c.requires.back_to_is c.requires.back_apart in
    let level = c.is_level.ensures.0 c.if-is_level.true in (
      only_common n.ring s t (scaled_point n s.from c.requires.first.from) (scaled_point n s.to c.requires.first.to)
          (scaled_point n t.from c.requires.second.from) (scaled_point n t.to c.requires.second.to) not_along apart back t.from (scaled_point n t.from c.requires.second.from) (sym c.requires.from_is ∙ level) (at_first n.ring t.from t.to),
      inr (inr (inl refl)),
    )

pub returns-then-is_level-2 : goal.returns-then-is_level-2
returns-then-is_level-2 g c =
    let n = g.W.Whole.numbers in
    let s = c.args.s in
    let t = c.args.t in
    let not_along : ¬ ((side n.ring s.from s.to t.from ≡ Equal) × (side n.ring s.from s.to t.to ≡ Equal)) = λ e. c.requires.not_along (c.requires.from_is ∙ e.0, c.requires.to_is ∙ e.1) in
    let apart = moved_apart c.args.sides.0 c.args.sides.1 (side n.ring s.from s.to t.from) (side n.ring s.from s.to t.to) c.requires.from_is c.requires.to_is c.requires.apart in
    let back = moved_apart c.args.back.0 c.args.back.1 (side n.ring t.from t.to s.from) (side n.ring t.from t.to s.to) c.requires.back_from_is c.requires.back_to_is c.requires.back_apart in
    let level = c.is_level-else-is_level.ensures.0 c.if-is_level-2.true in (
      only_common n.ring s t (scaled_point n s.from c.requires.first.from) (scaled_point n s.to c.requires.first.to)
          (scaled_point n t.from c.requires.second.from) (scaled_point n t.to c.requires.second.to) not_along apart back t.to (scaled_point n t.to c.requires.second.to) (sym c.requires.to_is ∙ level) (at_second n.ring t.from t.to),
      inr (inr (inr refl)),
    )

pub returns-then-is_level-3 : goal.returns-then-is_level-3
returns-then-is_level-3 g c =
    let n = g.W.Whole.numbers in
    let s = c.args.s in
    let t = c.args.t in
    let not_along : ¬ ((side n.ring s.from s.to t.from ≡ Equal) × (side n.ring s.from s.to t.to ≡ Equal)) = λ e. c.requires.not_along (c.requires.from_is ∙ e.0, c.requires.to_is ∙ e.1) in
    let apart = moved_apart c.args.sides.0 c.args.sides.1 (side n.ring s.from s.to t.from) (side n.ring s.from s.to t.to) c.requires.from_is c.requires.to_is c.requires.apart in
    let back = moved_apart c.args.back.0 c.args.back.1 (side n.ring t.from t.to s.from) (side n.ring t.from t.to s.to) c.requires.back_from_is c.requires.back_to_is c.requires.back_apart in
    let level = c.is_level-else-is_level-2.ensures.0 c.if-is_level-3.true in (
      only_common n.ring s t (scaled_point n s.from c.requires.first.from) (scaled_point n s.to c.requires.first.to)
          (scaled_point n t.from c.requires.second.from) (scaled_point n t.to c.requires.second.to) not_along apart back s.from (scaled_point n s.from c.requires.first.from) (at_first n.ring s.from s.to) (sym c.requires.back_from_is ∙ level),
      inl refl,
    )

pub returns-then-is_level-4 : goal.returns-then-is_level-4
returns-then-is_level-4 g c =
    let n = g.W.Whole.numbers in
    let s = c.args.s in
    let t = c.args.t in
    let not_along : ¬ ((side n.ring s.from s.to t.from ≡ Equal) × (side n.ring s.from s.to t.to ≡ Equal)) = λ e. c.requires.not_along (c.requires.from_is ∙ e.0, c.requires.to_is ∙ e.1) in
    let apart = moved_apart c.args.sides.0 c.args.sides.1 (side n.ring s.from s.to t.from) (side n.ring s.from s.to t.to) c.requires.from_is c.requires.to_is c.requires.apart in
    let back = moved_apart c.args.back.0 c.args.back.1 (side n.ring t.from t.to s.from) (side n.ring t.from t.to s.to) c.requires.back_from_is c.requires.back_to_is c.requires.back_apart in
    let level = c.is_level-else-is_level-3.ensures.0 c.if-is_level-4.true in (
      only_common n.ring s t (scaled_point n s.from c.requires.first.from) (scaled_point n s.to c.requires.first.to)
          (scaled_point n t.from c.requires.second.from) (scaled_point n t.to c.requires.second.to) not_along apart back s.to (scaled_point n s.to c.requires.first.to) (at_second n.ring s.from s.to) (sym c.requires.back_to_is ∙ level),
      inr (inl refl),
    )

pub returns-else-is_level-4 : goal.returns-else-is_level-4
returns-else-is_level-4 g c =
    let n = g.W.Whole.numbers in
    let s = c.args.s in
    let t = c.args.t in
    let not_along : ¬ ((side n.ring s.from s.to t.from ≡ Equal) × (side n.ring s.from s.to t.to ≡ Equal)) = λ e. c.requires.not_along (c.requires.from_is ∙ e.0, c.requires.to_is ∙ e.1) in
    let apart = moved_apart c.args.sides.0 c.args.sides.1 (side n.ring s.from s.to t.from) (side n.ring s.from s.to t.to) c.requires.from_is c.requires.to_is c.requires.apart in
    let back = moved_apart c.args.back.0 c.args.back.1 (side n.ring t.from t.to s.from) (side n.ring t.from t.to s.to) c.requires.back_from_is c.requires.back_to_is c.requires.back_apart in
    let from_off : ¬ (side n.ring s.from s.to t.from ≡ Equal) = λ e. refuted c.is_level.result (c.args.sides.0 ≡ Equal) c.if-is_level.false c.is_level.ensures.1 (c.requires.from_is ∙ e) in
    let to_off : ¬ (side n.ring s.from s.to t.to ≡ Equal) = λ e. refuted c.is_level-else-is_level.result (c.args.sides.1 ≡ Equal) c.if-is_level-2.false c.is_level-else-is_level.ensures.1 (c.requires.to_is ∙ e) in
    let back_from_off : ¬ (side n.ring t.from t.to s.from ≡ Equal) = λ e. refuted c.is_level-else-is_level-2.result (c.args.back.0 ≡ Equal) c.if-is_level-3.false c.is_level-else-is_level-2.ensures.1 (c.requires.back_from_is ∙ e) in
    let back_to_off : ¬ (side n.ring t.from t.to s.to ≡ Equal) = λ e. refuted c.is_level-else-is_level-3.result (c.args.back.1 ≡ Equal) c.if-is_level-4.false c.is_level-else-is_level-3.ensures.1 (c.requires.back_to_is ∙ e) in
    crosses n.ring s t c.cross_point.result c.cross_point.ensures.crossing
    (cross_common n.ring s t (scaled_point n s.from c.requires.first.from) (scaled_point n s.to c.requires.first.to)
    (scaled_point n t.from c.requires.second.from) (scaled_point n t.to c.requires.second.to) not_along apart back)
    (no_end_of_first n.ring s t (scaled_point n s.from c.requires.first.from) (scaled_point n s.to c.requires.first.to)
    (scaled_point n t.from c.requires.second.from) (scaled_point n t.to c.requires.second.to) not_along apart back back_from_off back_to_off)
    (no_end_of_second n.ring s t (scaled_point n s.from c.requires.first.from) (scaled_point n s.to c.requires.first.to)
    (scaled_point n t.from c.requires.second.from) (scaled_point n t.to c.requires.second.to) not_along apart back from_off to_off)
