-- Segments that don't lie along one line: none, or one point in common.
use mathlib.Core.Path.{◌≡◌, sym, subst, ◌∙◌}
use Rattle.std.proofs.Common.{inl, inr}
use Rattle.std.specs.Prelude.{IsTrue, Bool, true, false}
use Rattle.std.specs.declared.cmp.Ordering.{Ordering}
use Rattle.std.specs.declared.cmp.Ordering.TheVariants.{Equal}
use Rattle.algebra.specs.OrderedRing.{OrderedRing}
use Rattle.plane.specs.declared.point.Point.{Point}
use Rattle.scaled_plane.specs.declared.point.Segment.{Segment}
use Rattle.plane.specs.Points.{IsPoint, IsSamePoint}
use Rattle.plane.specs.Lines.{line, AreApart, side}
use Rattle.plane.specs.Segments.{IsEnd, IsOnBoth}
use Rattle.scaled_plane.specs.Segments.{IsCommon}
use Rattle.plane.specs.Directions.{AreParallel}
use Rattle.plane.specs.Lines.{crossing}
use Rattle.plane.proofs.Shares.{on_same}
use Rattle.plane.proofs.Lines.{same_turned, same_through, sign_at_same}
use Rattle.plane.proofs.Crossings.{share_point, meet_in_crossing, on_lines_crossing, common_is_crossing, crossing_on_first, crossing_on_second, parallel_apart}
use Rattle.segment_tests.specs.Meets.{IsOnlyCommon}

module _ {A : Type 0} (K : OrderedRing A) where
  module _ (s t : Segment A) (ha : IsPoint K s.from) (hb : IsPoint K s.to) (hc : IsPoint K t.from) (hd : IsPoint K t.to)
      (not_along : ¬ ((side K s.from s.to t.from ≡ Equal) × (side K s.from s.to t.to ≡ Equal))) where
    pub none_common : ¬ (AreApart (side K s.from s.to t.from) (side K s.from s.to t.to) × AreApart (side K t.from t.to s.from) (side K t.from t.to s.to))
        → (p : Point A) → IsPoint K p → ¬ IsCommon K s t p
    none_common n p hp h = n ((share_point K s.from s.to t.from t.to ha hb hc hd not_along).0 (p, hp, h.0, h.1))

    module _ (apart : AreApart (side K s.from s.to t.from) (side K s.from s.to t.to)) (back : AreApart (side K t.from t.to s.from) (side K t.from t.to s.to)) where
      n : Point A
      n = crossing K s.from s.to t.from t.to

      met : IsOnBoth K s.from s.to t.from t.to (crossing K s.from s.to t.from t.to)
      met = meet_in_crossing K s.from s.to t.from t.to ha hb hc hd not_along apart back

      -- a point of both lines is the one common point
      pub only_common : (q : Point A) → IsPoint K q → side K s.from s.to q ≡ Equal → side K t.from t.to q ≡ Equal → IsOnlyCommon K s t q
      only_common q hq on_first on_second =
          let cross : Point A = crossing K s.from s.to t.from t.to in
          let is : IsSamePoint K q cross = on_lines_crossing K s.from s.to t.from t.to q on_first on_second in
          record {
            point = hq;
            common = (on_same K met.0 hq (same_turned K is) met.1, on_same K met.0 hq (same_turned K is) met.2);
            only = λ p hp h. same_through K p cross q met.0 (common_is_crossing K s.from s.to t.from t.to p ha hb hc hd (hp, h.0, h.1)) (same_turned K is);
          }

      pub not_parallel : ¬ AreParallel K s.from s.to t.from t.to
      not_parallel = parallel_apart K s.from s.to t.from t.to met.0

      pub cross_common : IsOnlyCommon K s t (crossing K s.from s.to t.from t.to)
      cross_common =
          only_common (crossing K s.from s.to t.from t.to) met.0 (crossing_on_first K s.from s.to t.from t.to) (crossing_on_second K s.from s.to t.from t.to)

      -- which is no end of a segment whose ends lie off the line of the other
      pub no_end_of_first : ¬ (side K t.from t.to s.from ≡ Equal) → ¬ (side K t.from t.to s.to ≡ Equal) → ¬ IsEnd K s.from s.to (crossing K s.from s.to t.from t.to)
      no_end_of_first f g (inl e) =
          f (sym (sign_at_same K (line K.ops t.from t.to) (crossing K s.from s.to t.from t.to) s.from met.0 ha e) ∙ crossing_on_second K s.from s.to t.from t.to)
      no_end_of_first f g (inr e) =
          g (sym (sign_at_same K (line K.ops t.from t.to) (crossing K s.from s.to t.from t.to) s.to met.0 hb e) ∙ crossing_on_second K s.from s.to t.from t.to)

      pub no_end_of_second : ¬ (side K s.from s.to t.from ≡ Equal) → ¬ (side K s.from s.to t.to ≡ Equal) → ¬ IsEnd K t.from t.to (crossing K s.from s.to t.from t.to)
      no_end_of_second f g (inl e) =
          f (sym (sign_at_same K (line K.ops s.from s.to) (crossing K s.from s.to t.from t.to) t.from met.0 hc e) ∙ crossing_on_first K s.from s.to t.from t.to)
      no_end_of_second f g (inr e) =
          g (sym (sign_at_same K (line K.ops s.from s.to) (crossing K s.from s.to t.from t.to) t.to met.0 hd e) ∙ crossing_on_first K s.from s.to t.from t.to)

pub moved_apart : (o p u v : Ordering) → o ≡ u → p ≡ v → AreApart o p → AreApart u v
moved_apart o p u v e f h = subst (λ (q : Ordering). AreApart q v) e (subst (λ (q : Ordering). AreApart o q) f h)

-- what a test that failed says
pub refuted : (b : Bool) (P : Type 0) → b ≡ false → (P → IsTrue b) → ¬ P
refuted true P e f = absurd (cc)
refuted false P e f = λ p. absurd (let no : IsTrue false = f p in cc)

-- the crossing as the answer
pub crosses : {A : Type 0} (K : OrderedRing A) (s t : Segment A) (q : Point A) → q ≡ crossing K s.from s.to t.from t.to
    → IsOnlyCommon K s t (crossing K s.from s.to t.from t.to) → ¬ IsEnd K s.from s.to (crossing K s.from s.to t.from t.to) → ¬ IsEnd K t.from t.to (crossing K s.from s.to t.from t.to)
    → IsOnlyCommon K s t q × ¬ IsEnd K s.from s.to q × ¬ IsEnd K t.from t.to q × (q ≡ crossing K s.from s.to t.from t.to)
crosses K s t q e only first second = (
  subst (IsOnlyCommon K s t) (sym e) only,
  subst (λ p. ¬ IsEnd K s.from s.to p) (sym e) first,
  subst (λ p. ¬ IsEnd K t.from t.to p) (sym e) second,
  e,
)
