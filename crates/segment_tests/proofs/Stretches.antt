-- Segments along one line: their common points stand from the later of the first ends to the earlier of the second ones.
use mathlib.Core.Path.{◌≡◌, refl, sym, ap, subst, ◌∙◌}
use Rattle.std.proofs.Common.{inl, inr}
use Rattle.std.specs.Prelude.{IsTrue, ◌⊎◌, ◌↔◌, false}
use Rattle.std.specs.Cmp.{upto}
use Rattle.std.specs.Ordering.{is_le, is_gt, ordering_reverse}
use Rattle.std.specs.declared.cmp.Ordering.{Ordering}
use Rattle.std.specs.declared.cmp.Ordering.TheVariants.{Less, Equal, Greater}
use Rattle.algebra.specs.OrderedRing.{OrderedRing}
use Rattle.plane.specs.declared.point.Point.{Point}
use Rattle.scaled_plane.specs.declared.point.Segment.{Segment}
use Rattle.plane.specs.Points.{IsPoint, IsSamePoint, point_order}
use Rattle.plane.specs.Lines.{side}
use Rattle.plane.specs.Segments.{IsOn}
use Rattle.scaled_plane.specs.Segments.{IsCommon}
use Rattle.plane.proofs.Shares.{side_of_on}
use Rattle.plane.proofs.Lines.{at_first, at_second, same_refl, swapped}
use Rattle.plane.proofs.OnSegments.{on_turned}
use Rattle.plane.proofs.Order.{SomePoint, points_total, order_turned, order_same_right, same_of_equal, equal_of_same}
use Rattle.plane.proofs.Along.{between_of_on, on_of_between, in_line}
use Rattle.segment_tests.specs.Meets.{IsOnlyCommon, IsOneEnd}

not_greater : (o : Ordering) → IsTrue (is_le o) → is_gt o ≡ false
not_greater Less h = refl
not_greater Equal h = refl
not_greater Greater h = absurd (cc)

le_of_not_greater : (o : Ordering) → is_gt o ≡ false → IsTrue (is_le o)
le_of_not_greater Less h = refl
le_of_not_greater Equal h = refl
le_of_not_greater Greater h = absurd (cc)

pub le_of_less : (o : Ordering) → o ≡ Less → IsTrue (is_le o)
le_of_less o e = rw e refl

pub le_of_equal : (o : Ordering) → o ≡ Equal → IsTrue (is_le o)
le_of_equal o e = rw e refl

equal_of_both : (o : Ordering) → IsTrue (is_le o) → IsTrue (is_le (ordering_reverse o)) → o ≡ Equal
equal_of_both Less h k = absurd (cc)
equal_of_both Equal h k = refl
equal_of_both Greater h k = absurd (cc)

module _ {A : Type 0} (K : OrderedRing A) where
  -- p stands before q, or is q
  abbrev pub Le : Point A → Point A → Type 0
  Le p q = IsTrue (is_le (point_order K p q))

  pub le_refl : (p : Point A) → Le p p
  le_refl p = le_of_equal (point_order K p p) (equal_of_same K p p (same_refl K p))

  pub le_turned : (p q : Point A) → point_order K p q ≡ Greater → Le q p
  le_turned p q e = subst (λ (o : Ordering). IsTrue (is_le o)) (sym (order_turned K p q)) (rw e refl)

  pub le_chain : (p q r : Point A) → IsPoint K p → IsPoint K q → IsPoint K r → Le p q → Le q r → Le p r
  le_chain p q r hp hq hr h k =
      let x : SomePoint K = (p, hp) in
      let y : SomePoint K = (q, hq) in
      let z : SomePoint K = (r, hr) in
      le_of_not_greater (point_order K p r) (upto (points_total K) x y z (not_greater (point_order K p q) h) (not_greater (point_order K q r) k))

  pub same_of_both : (p q : Point A) → Le p q → Le q p → IsSamePoint K p q
  same_of_both p q h k =
      same_of_equal K p q (equal_of_both (point_order K p q) h (subst (λ (o : Ordering). IsTrue (is_le o)) (order_turned K p q) k))

  -- the later of two first ends, and the earlier of two second ends
  pub record IsStretch (a b c d low high : Point A) : Type 0 where
    pub low_is : (low ≡ a) ⊎ (low ≡ c)
    pub from_a : Le a low
    pub from_c : Le c low
    pub high_is : (high ≡ b) ⊎ (high ≡ d)
    pub to_b : Le high b
    pub to_d : Le high d

  of_either : (P : Point A → Type 0) (p q r : Point A) → (r ≡ p) ⊎ (r ≡ q) → P p → P q → P r
  of_either P p q r (inl e) h k = subst P (sym e) h
  of_either P p q r (inr e) h k = subst P (sym e) k

  module _ (a b c d low high : Point A) (ha : IsPoint K a) (hb : IsPoint K b) (hc : IsPoint K c) (hd : IsPoint K d)
      (a_first : point_order K a b ≡ Less) (c_first : point_order K c d ≡ Less) (on_c : side K a b c ≡ Equal) (on_d : side K a b d ≡ Equal)
      (stretch : IsStretch a b c d low high) where
    low_point : IsPoint K low
    low_point = of_either (IsPoint K) a c low stretch.low_is ha hc

    high_point : IsPoint K high
    high_point = of_either (IsPoint K) b d high stretch.high_is hb hd

    on_low : side K a b low ≡ Equal
    on_low = of_either (λ p. side K a b p ≡ Equal) a c low stretch.low_is (at_first K a b) on_c

    on_high : side K a b high ≡ Equal
    on_high = of_either (λ p. side K a b p ≡ Equal) b d high stretch.high_is (at_second K a b) on_d

    within : (p : Point A) → IsPoint K p → IsOn K a b p → IsOn K c d p → (side K a b p ≡ Equal) × Le low p × Le p high
    within p hp h k =
        let first = between_of_on K a b p ha hb hp a_first h in
        let second = between_of_on K c d p hc hd hp c_first k in (
          side_of_on K h,
          of_either (λ q. Le q p) a c low stretch.low_is first.0 second.0,
          of_either (λ q. Le p q) b d high stretch.high_is first.1 second.1,
        )

    without : (p : Point A) → IsPoint K p → side K a b p ≡ Equal → Le low p → Le p high → IsOn K a b p × IsOn K c d p
    without p hp e h k = (
      on_of_between K a b p ha hb hp e (le_chain a low p ha low_point hp stretch.from_a h, le_chain p high b hp high_point hb k stretch.to_b) a_first,
      on_of_between K c d p hc hd hp (in_line K a b c d p a_first on_c on_d e)
          (le_chain c low p hc low_point hp stretch.from_c h, le_chain p high d hp high_point hd k stretch.to_d) c_first,
    )

    -- a stretch from low to high
    pub along : point_order K low high ≡ Less → (p : Point A) → IsPoint K p → (IsOn K a b p × IsOn K c d p) ↔ IsOn K low high p
    along low_first p hp = (
      λ h. let is = within p hp h.0 h.1 in on_of_between K low high p low_point high_point hp (in_line K a b low high p a_first on_low on_high is.0) (is.1, is.2) low_first,
      λ h. let between = between_of_on K low high p low_point high_point hp low_first h in
          without p hp
          (in_line K low high a b p low_first
          (in_line K a b low high a a_first on_low on_high (at_first K a b)) (in_line K a b low high b a_first on_low on_high (at_second K a b))
          (side_of_on K h)) between.0 between.1,
    )

    -- one point
    pub touching : point_order K low high ≡ Equal
        → IsPoint K low × (IsOn K a b low × IsOn K c d low) × ((p : Point A) → IsPoint K p → IsOn K a b p → IsOn K c d p → IsSamePoint K p low)
    touching e =
        let same : IsSamePoint K low high = same_of_equal K low high e in (
          low_point,
          without low low_point on_low (le_refl low) (le_of_equal (point_order K low high) e),
          λ p hp h k. let is = within p hp h k in
              same_of_both p low (subst (λ (o : Ordering). IsTrue (is_le o)) (sym (order_same_right K low high p low_point high_point same)) is.2) is.1,
        )

    -- none
    pub apart : point_order K low high ≡ Greater → (p : Point A) → IsPoint K p → IsOn K a b p → IsOn K c d p → ⊥
    apart e p hp h k =
        let is = within p hp h k in
        let le : IsTrue (is_le (point_order K low high)) = le_chain low p high low_point hp high_point is.1 is.2 in
        let no : IsTrue (is_le Greater) = subst (λ (o : Ordering). IsTrue (is_le o)) e le in
        absurd (cc)

  -- ---- a segment by its ends in order

  abbrev pub AreEnds : Segment A → Point A → Point A → Type 0
  AreEnds s a b = ((a ≡ s.from) × (b ≡ s.to)) ⊎ ((a ≡ s.to) × (b ≡ s.from))

  pub ends_have : (P : Point A → Type 0) (s : Segment A) (a b : Point A) → AreEnds s a b → P s.from → P s.to → P a × P b
  ends_have P s a b (inl e) h k = (subst P (sym e.0) h, subst P (sym e.1) k)
  ends_have P s a b (inr e) h k = (subst P (sym e.0) k, subst P (sym e.1) h)

  moved_on : (p a b c d : Point A) → a ≡ c → b ≡ d → IsOn K a b p → IsOn K c d p
  moved_on p a b c d e f h = subst (λ q. IsOn K q d p) e (subst (λ q. IsOn K a q p) f h)

  pub ends_on : (s : Segment A) (a b p : Point A) → AreEnds s a b → IsOn K s.from s.to p ↔ IsOn K a b p
  ends_on s a b p (inl e) = (moved_on p s.from s.to a b (sym e.0) (sym e.1), moved_on p a b s.from s.to e.0 e.1)
  ends_on s a b p (inr e) =
      (λ h. moved_on p s.to s.from a b (sym e.0) (sym e.1) (on_turned K h), λ h. on_turned K (moved_on p a b s.to s.from e.0 e.1 h))

  moved_side : (p a b c d : Point A) → a ≡ c → b ≡ d → side K a b p ≡ Equal → side K c d p ≡ Equal
  moved_side p a b c d e f h = subst (λ q. side K q d p ≡ Equal) e (subst (λ q. side K a q p ≡ Equal) f h)

  pub ends_side : (s : Segment A) (a b p : Point A) → AreEnds s a b → side K s.from s.to p ≡ Equal → side K a b p ≡ Equal
  ends_side s a b p (inl e) h = moved_side p s.from s.to a b (sym e.0) (sym e.1) h
  ends_side s a b p (inr e) h = moved_side p s.to s.from a b (sym e.0) (sym e.1) (swapped K s.from s.to p ∙ ap ordering_reverse h)

  pub end_of_first : (s t : Segment A) (a b : Point A) → AreEnds s a b → IsOneEnd K s t a × IsOneEnd K s t b
  end_of_first s t a b (inl e) = (inl e.0, inr (inl e.1))
  end_of_first s t a b (inr e) = (inr (inl e.0), inl e.1)

  pub end_of_second : (s t : Segment A) (c d : Point A) → AreEnds t c d → IsOneEnd K s t c × IsOneEnd K s t d
  end_of_second s t c d (inl e) = (inr (inr (inl e.0)), inr (inr (inr e.1)))
  end_of_second s t c d (inr e) = (inr (inr (inr e.0)), inr (inr (inl e.1)))

  pub end_of_either : (s t : Segment A) (p q r : Point A) → (r ≡ p) ⊎ (r ≡ q) → IsOneEnd K s t p → IsOneEnd K s t q → IsOneEnd K s t r
  end_of_either s t p q r = of_either (IsOneEnd K s t) p q r

  pub le_turned_equal : (p q : Point A) → point_order K p q ≡ Equal → Le q p
  le_turned_equal p q e = subst (λ (o : Ordering). IsTrue (is_le o)) (sym (order_turned K p q)) (rw e refl)

  module _ (s t : Segment A) (a b c d low high : Point A) (first_ends : AreEnds s a b) (second_ends : AreEnds t c d)
      (h_first_from : IsPoint K s.from) (h_first_to : IsPoint K s.to) (h_second_from : IsPoint K t.from) (h_second_to : IsPoint K t.to)
      (a_first : point_order K a b ≡ Less) (c_first : point_order K c d ≡ Less)
      (from_along : side K s.from s.to t.from ≡ Equal) (to_along : side K s.from s.to t.to ≡ Equal) (stretch : IsStretch a b c d low high) where
    first_points : IsPoint K a × IsPoint K b
    first_points = ends_have (IsPoint K) s a b first_ends h_first_from h_first_to

    second_points : IsPoint K c × IsPoint K d
    second_points = ends_have (IsPoint K) t c d second_ends h_second_from h_second_to

    second_on : (side K a b c ≡ Equal) × (side K a b d ≡ Equal)
    second_on = ends_have (λ p. side K a b p ≡ Equal) t c d second_ends (ends_side s a b t.from first_ends from_along) (ends_side s a b t.to first_ends to_along)

    low_end : IsOneEnd K s t low
    low_end = end_of_either s t a c low stretch.low_is (end_of_first s t a b first_ends).0 (end_of_second s t c d second_ends).0

    high_end : IsOneEnd K s t high
    high_end = end_of_either s t b d high stretch.high_is (end_of_first s t a b first_ends).1 (end_of_second s t c d second_ends).1

    pub stretch_along : point_order K low high ≡ Less
        → IsOneEnd K s t low × IsOneEnd K s t high × (point_order K low high ≡ Less) × ((r : Point A) → IsPoint K r → (IsCommon K s t r ↔ IsOn K low high r))
    stretch_along e = (
      low_end,
      high_end,
      e,
      λ r hr.
          let is = along a b c d low high first_points.0 first_points.1 second_points.0 second_points.1 a_first c_first second_on.0 second_on.1 stretch e r hr in (
            λ h. is.0 ((ends_on s a b r first_ends).0 h.0, (ends_on t c d r second_ends).0 h.1),
            λ h. let both = is.1 h in ((ends_on s a b r first_ends).1 both.0, (ends_on t c d r second_ends).1 both.1),
          ),
    )

    pub stretch_touching : point_order K low high ≡ Equal → IsOnlyCommon K s t low × IsOneEnd K s t low
    stretch_touching e =
        let is = touching a b c d low high first_points.0 first_points.1 second_points.0 second_points.1 a_first c_first second_on.0 second_on.1 stretch e in (
          record {
            point = is.0;
            common = ((ends_on s a b low first_ends).1 is.1.0, (ends_on t c d low second_ends).1 is.1.1);
            only = λ p hp h. is.2 p hp ((ends_on s a b p first_ends).0 h.0) ((ends_on t c d p second_ends).0 h.1);
          },
          low_end,
        )

    pub stretch_apart : point_order K low high ≡ Greater → (p : Point A) → IsPoint K p → ¬ IsCommon K s t p
    stretch_apart e p hp h =
        apart a b c d low high first_points.0 first_points.1 second_points.0 second_points.1 a_first c_first second_on.0 second_on.1 stretch e p hp
        ((ends_on s a b p first_ends).0 h.0) ((ends_on t c d p second_ends).0 h.1)
