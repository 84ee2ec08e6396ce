-- Whether segments share more than one point, by what they have in common.
use Rattle.std.proofs.Common.{◌≡◌, sym, subst, inl, inr, ℕ}
use lib.IntN.{ℤ}
use Rattle.std.specs.declared.cmp.Ordering.TheVariants.{Less, Equal}
use Rattle.algebra.specs.OrderedRing.{OrderedRing}
use Rattle.algebra.specs.Surd.{Surd}
use Rattle.algebra.specs.WholeSurds.{SurdNumbers}
use Rattle.plane.specs.declared.point.Point.{Point}
use Rattle.plane.specs.Points.{IsPoint, point_order}
use Rattle.plane.proofs.Lines.{same_turned, same_through}
use Rattle.plane.proofs.OnSegments.{from_is_on, to_is_on}
use Rattle.plane.proofs.Order.{equal_of_same}
use Rattle.scaled_plane.specs.declared.point.Segment.{Segment}
use Rattle.scaled_plane.specs.Drawn.{IsScaledSegment}
use Rattle.scaled_plane.proofs.DrawnSizes.{scaled_point}
use Rattle.segment_tests.specs.declared.answer.Meet.TheVariants.{Along}
use Rattle.segment_tests.specs.Meets.{IsMeet, IsOnlyCommon, IsOneEnd}
use Rattle.half_planes.specs.Faces.{RunTogether}

module _ {A : Type 0} (K : OrderedRing A) (s t : Segment A) where
  pub not_together : (q : Point A) → IsOnlyCommon K s t q → ¬ RunTogether K s.from s.to t.from t.to
  not_together q only r =
      r.4 (same_through K r.0 q r.1 only.point (only.only r.0 r.2.0 (r.2.1, r.2.2)) (same_turned K (only.only r.1 r.3.0 (r.3.1, r.3.2))))

module _ {A : Type 0} {k : ℕ} {surd : A → Surd ℤ} (numbers : SurdNumbers k surd) (s t : Segment A) (hs : IsScaledSegment numbers s) (ht : IsScaledSegment numbers t) where
  end_point : (q : Point A) → IsOneEnd numbers.ring s t q → IsPoint numbers.ring q
  end_point q (inl e) = subst (IsPoint numbers.ring) (sym e) (scaled_point numbers s.from hs.from)
  end_point q (inr (inl e)) = subst (IsPoint numbers.ring) (sym e) (scaled_point numbers s.to hs.to)
  end_point q (inr (inr (inl e))) = subst (IsPoint numbers.ring) (sym e) (scaled_point numbers t.from ht.from)
  end_point q (inr (inr (inr e))) = subst (IsPoint numbers.ring) (sym e) (scaled_point numbers t.to ht.to)

  pub together : (p q : Point A) → IsMeet numbers.ring s t (Along p q) → RunTogether numbers.ring s.from s.to t.from t.to
  together p q h =
      let K = numbers.ring in
      let hp : IsPoint K p = end_point p h.0 in
      let hq : IsPoint K q = end_point q h.1 in (
        p,
        q,
        (hp, ((h.3 p hp).1 (from_is_on K p q)).0, ((h.3 p hp).1 (from_is_on K p q)).1),
        (hq, ((h.3 q hq).1 (to_is_on K p q)).0, ((h.3 q hq).1 (to_is_on K p q)).1),
        λ same. let equal : point_order K p q ≡ Equal = equal_of_same K p q same in let less : point_order K p q ≡ Less = h.2 in absurd (cc),
      )
