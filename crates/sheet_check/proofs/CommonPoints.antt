-- Common points of two segments that aren't ends of both.
use mathlib.Core.Path.{◌≡◌, refl, sym, ap, subst, ◌∙◌}
use mathlib.Core.List.{[], ◌∷◌}
use mathlib.Core.Bool.{Bool, true, false, not}
use lib.IntN.{pos}
use Rattle.std.proofs.Common.{inl, inr}
use Rattle.std.specs.Prelude.{◌⊎◌, ◌↔◌, IsTrue}
use Rattle.std.specs.Bool.{OnTrue, OnFalse}
use Rattle.std.specs.Ordering.{ordering_reverse}
use Rattle.std.specs.declared.cmp.Ordering.{Ordering}
use Rattle.std.specs.declared.cmp.Ordering.TheVariants.{Equal, Greater}
use Rattle.algebra.specs.OrderedRing.{OrderedRing}
use Rattle.algebra.proofs.Solvers.{reads, ring_from_multiple, multiple, no_equation}
use Rattle.plane.specs.declared.point.Point.{Point}
use Rattle.plane.specs.Lines.{side}
use Rattle.plane.specs.Points.{IsPoint, IsSamePoint, combination, point_order}
use Rattle.plane.specs.Segments.{IsBetween, IsEnd, IsOn}
use Rattle.plane.proofs.Along.{between_of_on}
use Rattle.plane.proofs.Lines.{same_through, same_turned}
use Rattle.plane.proofs.OnSegments.{between_is_on, between_turned, from_is_on, mediant, on_is_between, on_turned, point_between, to_is_on}
use Rattle.plane.proofs.Order.{order_same, order_same_right, order_turned}
use Rattle.plane.proofs.Shares.{on_same, side_of_on}
use Rattle.scaled_plane.specs.declared.point.Segment.{Segment}
use Rattle.arrangement.proofs.OnLines.{Before, apart, between_on_line, order_of_between, three_orders, turned_order, upto_not_before}
use Rattle.segment_tests.specs.declared.answer.Meet.TheVariants.{Apart, Touches, Crosses, Along}
use Rattle.segment_tests.specs.Meets.{IsMeet, IsOneEnd}
use Rattle.sheet_check.specs.Spans.{AreOneWay, MeetBeside}

module _ {A : Type 0} (K : OrderedRing A) where
  -- ---- a point on a segment that isn't an end of it

  module _ (a b p : Point A) (ha : IsPoint K a) (hb : IsPoint K b) (hp : IsPoint K p) (proper : ¬ IsSamePoint K a b) where
    a_on : side K a b a ≡ Equal
    a_on = side_of_on K (from_is_on K a b)

    b_on : side K a b b ≡ Equal
    b_on = side_of_on K (to_is_on K a b)

    no_end : IsBetween K a b p → Before K a p ⊎ Before K p a → Before K p b ⊎ Before K b p → IsOn K a b p × ¬ IsEnd K a b p
    no_end h from to = (between_is_on K h, λ e. at e)
      where
        at : IsEnd K a b p → ⊥
        at (inl e) = elim from [
          | inl less ↦ apart K a p less (same_turned K e)
          | inr less ↦ apart K p a less e
        ]
        at (inr e) = elim to [
          | inl less ↦ apart K p b less e
          | inr less ↦ apart K b p less (same_turned K e)
        ]

    inside : side K a b p ≡ Equal → AreOneWay (point_order K a p) (point_order K p b) → IsOn K a b p × ¬ IsEnd K a b p
    inside on (inl h) = no_end (between_on_line K a b a b p ha hb hp proper a_on b_on on h.0 h.1) (inl h.0) (inl h.1)
    inside on (inr h) =
        let to_a = turned_order K a p h.0 in
        let from_b = turned_order K p b h.1 in
        no_end (between_turned K (between_on_line K a b b a p hb ha hp proper b_on a_on on from_b to_a)) (inr to_a) (inr from_b)

    greater : (q r : Point A) → Before K r q → point_order K q r ≡ Greater
    greater q r less = order_turned K r q ∙ ap ordering_reverse less

    ordered : IsBetween K a b p → AreOneWay (point_order K a p) (point_order K p b)
    ordered h = elim (three_orders K a b) [
      | inl less ↦ inl (order_of_between K a b p ha hb hp less h)
      | inr (inl e) ↦ absurd (proper e)
      | inr (inr less) ↦ let back = order_of_between K b a p hb ha hp less (between_turned K h) in inr (greater a p back.1, greater p b back.0)
    ]

    pub inside_decided : (side K a b p ≡ Equal × AreOneWay (point_order K a p) (point_order K p b)) ↔ (IsOn K a b p × ¬ IsEnd K a b p)
    inside_decided = (λ h. inside h.0 h.1, λ h. (side_of_on K h.0, ordered (on_is_between K h.0 (λ e. h.1 (inl e)) (λ e. h.1 (inr e)))))

    -- the answer that is computed from three orders
    pub inside_answer : (r : Bool) (o u v : Ordering) → o ≡ side K a b p → u ≡ point_order K a p → v ≡ point_order K p b
        → (IsTrue r ↔ ((o ≡ Equal) × AreOneWay u v)) → IsTrue r ↔ (IsOn K a b p × ¬ IsEnd K a b p)
    inside_answer r o u v eo eu ev h = (
      λ yes. let k = h.0 yes in inside (sym eo ∙ k.0) (subst (λ w. AreOneWay w (point_order K p b)) eu (subst (AreOneWay u) ev k.1)),
      λ k. let back = inside_decided.1 k in h.1 (eo ∙ back.0, subst (λ w. AreOneWay w v) (sym eu) (subst (AreOneWay (point_order K a p)) (sym ev) back.1)),
    )

  -- ---- a segment whose ends are one point

  flat_is_end : (a b p : Point A) → IsSamePoint K a b → IsOn K a b p → IsSamePoint K p a
  flat_is_end a b p e h =
      let n : ¬ (K.sign h.factor ≡ Equal) = λ f. (let g = sym h.factor_positive ∙ f in absurd (cc)) in
      let xs = a.x ∷ a.y ∷ a.w ∷ b.x ∷ b.y ∷ b.w ∷ p.x ∷ p.y ∷ p.w ∷ h.factor ∷ h.from_share ∷ h.to_share ∷ [] in
      record {
        same_x = ring_from_multiple K xs
            (multiple a.w (search reads depth 40 fits 50000) (search reads depth 40 fits 50000) (search reads depth 40 fits 50000) (ap (λ (v : Point A). v.x) h.is)
            (multiple (K.neg a.x) (search reads depth 40 fits 50000) (search reads depth 40 fits 50000) (search reads depth 40 fits 50000) (ap (λ (v : Point A). v.w) h.is)
            (multiple (K.neg h.to_share) (search reads depth 40 fits 50000) (search reads depth 40 fits 50000) (search reads depth 40 fits 50000) e.same_x no_equation)))
            (search reads depth 40 fits 50000) n (search reads depth 40 fits 50000) (search reads depth 40 fits 50000) tt;
        same_y = ring_from_multiple K xs
            (multiple a.w (search reads depth 40 fits 50000) (search reads depth 40 fits 50000) (search reads depth 40 fits 50000) (ap (λ (v : Point A). v.y) h.is)
            (multiple (K.neg a.y) (search reads depth 40 fits 50000) (search reads depth 40 fits 50000) (search reads depth 40 fits 50000) (ap (λ (v : Point A). v.w) h.is)
            (multiple (K.neg h.to_share) (search reads depth 40 fits 50000) (search reads depth 40 fits 50000) (search reads depth 40 fits 50000) e.same_y no_equation)))
            (search reads depth 40 fits 50000) n (search reads depth 40 fits 50000) (search reads depth 40 fits 50000) tt;
      }

  pub flat_none : (a b p : Point A) → IsSamePoint K a b → IsTrue false ↔ (IsOn K a b p × ¬ IsEnd K a b p)
  flat_none a b p e = (λ h. absurd (cc), λ h. absurd (h.1 (inl (flat_is_end a b p e h.0))))

  end_moved : (a b p q : Point A) → IsPoint K p → IsSamePoint K q p → IsEnd K a b p → IsEnd K a b q
  end_moved a b p q hp e (inl f) = inl (same_through K q p a hp e f)
  end_moved a b p q hp e (inr f) = inr (same_through K q p b hp e f)

  pub meets_turned : (s t : Segment A) → MeetBeside K s t → MeetBeside K t s
  meets_turned s t m = (m.0, (m.1.0, m.1.2, m.1.1), λ ends. m.2 (ends.1, ends.0))

  module _ (s t : Segment A) (hs : IsPoint K s.from) where
    -- the one point of a flat segment lies on another, and isn't an end of it
    pub flat_meets : IsSamePoint K s.from s.to → (r : Bool) → (IsTrue r ↔ (IsOn K t.from t.to s.from × ¬ IsEnd K t.from t.to s.from))
        → OnTrue r (MeetBeside K s t) × OnFalse r (¬ MeetBeside K s t)
    flat_meets e true h = let k = h.0 refl in ((s.from, (hs, from_is_on K s.from s.to, k.0), λ ends. k.1 ends.1), tt)
    flat_meets e false h = (tt, λ m. refuse m.0 m.1.0 m.1.1 m.1.2 m.2)
      where
        refuse : (p : Point A) → IsPoint K p → IsOn K s.from s.to p → IsOn K t.from t.to p → ¬ (IsEnd K s.from s.to p × IsEnd K t.from t.to p) → ⊥
        refuse p hp on_s on_t n =
            let same : IsSamePoint K p s.from = flat_is_end s.from s.to p e on_s in
            absurd (let yes : IsTrue false = h.1 (on_same K hp hs same on_t, λ end. n (inl same, end_moved t.from t.to s.from p hs same end)) in cc)

  module _ (s t : Segment A) (ht : IsPoint K t.from) where
    pub meets_flat : IsSamePoint K t.from t.to → (r : Bool) → (IsTrue r ↔ (IsOn K s.from s.to t.from × ¬ IsEnd K s.from s.to t.from))
        → OnTrue r (MeetBeside K s t) × OnFalse r (¬ MeetBeside K s t)
    meets_flat e true h = (meets_turned t s (flat_meets t s ht e true h).0, tt)
    meets_flat e false h = (tt, λ m. (flat_meets t s ht e false h).1 (meets_turned s t m))

  -- ---- two segments whose ends differ

  module _ (s t : Segment A) (ha : IsPoint K s.from) (hb : IsPoint K s.to) (hc : IsPoint K t.from) (hd : IsPoint K t.to) where
    pub apart_meets : IsMeet K s t Apart → ¬ MeetBeside K s t
    apart_meets m h = m h.0 h.1.0 (h.1.1, h.1.2)

    pub touch_meets : (q : Point A) → IsMeet K s t (Touches q) → (r : Bool) → (IsTrue r ↔ (IsEnd K s.from s.to q × IsEnd K t.from t.to q))
        → OnTrue (not r) (MeetBeside K s t) × OnFalse (not r) (¬ MeetBeside K s t)
    touch_meets q m true h =
        let ends = h.0 refl in (
          tt,
          λ k. k.2 (
            end_moved s.from s.to q k.0 m.0.point (m.0.only k.0 k.1.0 (k.1.1, k.1.2)) ends.0,
            end_moved t.from t.to q k.0 m.0.point (m.0.only k.0 k.1.0 (k.1.1, k.1.2)) ends.1,
          ),
        )
    touch_meets q m false h = ((q, (m.0.point, m.0.common.0, m.0.common.1), λ ends. absurd (let yes : IsTrue false = h.1 ends in cc)), tt)

    pub cross_meets : (q : Point A) → IsMeet K s t (Crosses q) → MeetBeside K s t
    cross_meets q m = (q, (m.0.point, m.0.common.0, m.0.common.1), λ ends. m.1 ends.0)

    -- what stands between two points of a segment isn't an end of it
    not_end_between : (a b p q m : Point A) → IsPoint K a → IsPoint K b → IsPoint K p → IsPoint K q → IsPoint K m → Before K a b → IsOn K a b p → IsOn K a b q
        → Before K p m → Before K m q → ¬ IsEnd K a b m
    not_end_between a b p q m ka kb kp kq km less on_p on_q first second (inl e) =
        upto_not_before K a p (between_of_on K a b p ka kb kp less on_p).0 (sym (order_same_right K m a p km ka e) ∙ first)
    not_end_between a b p q m ka kb kp kq km less on_p on_q first second (inr e) =
        upto_not_before K q b (between_of_on K a b q ka kb kq less on_q).1 (sym (order_same K m b q km kb e) ∙ second)

    end_turned : (a b p : Point A) → IsEnd K a b p → IsEnd K b a p
    end_turned a b p (inl e) = inr e
    end_turned a b p (inr e) = inl e

    one_end_point : (q : Point A) → IsOneEnd K s t q → IsPoint K q
    one_end_point q (inl e) = subst (IsPoint K) (sym e) ha
    one_end_point q (inr (inl e)) = subst (IsPoint K) (sym e) hb
    one_end_point q (inr (inr (inl e))) = subst (IsPoint K) (sym e) hc
    one_end_point q (inr (inr (inr e))) = subst (IsPoint K) (sym e) hd

    pub along_meets : ¬ IsSamePoint K s.from s.to → (p q : Point A) → IsMeet K s t (Along p q) → MeetBeside K s t
    along_meets proper p q m = (mid, (mid_point, common.0, common.1), λ ends. not_end ends.0)
      where
        mid : Point A
        mid = combination K.ops (K.int (pos 1)) p (K.int (pos 1)) q

        hp : IsPoint K p
        hp = one_end_point p m.0

        hq : IsPoint K q
        hq = one_end_point q m.1

        between : IsBetween K p q mid
        between = mediant K p q

        mid_point : IsPoint K mid
        mid_point = point_between K p q mid hp hq between

        common : IsOn K s.from s.to mid × IsOn K t.from t.to mid
        common = (m.3 mid mid_point).1 (between_is_on K between)

        order : Before K p mid × Before K mid q
        order = order_of_between K p q mid hp hq mid_point m.2 between

        p_on : IsOn K s.from s.to p
        p_on = ((m.3 p hp).1 (from_is_on K p q)).0

        q_on : IsOn K s.from s.to q
        q_on = ((m.3 q hq).1 (to_is_on K p q)).0

        not_end : ¬ IsEnd K s.from s.to mid
        not_end e = elim (three_orders K s.from s.to) [
          | inl less ↦ not_end_between s.from s.to p q mid ha hb hp hq mid_point less p_on q_on order.0 order.1 e
          | inr (inl same) ↦ proper same
          | inr (inr less) ↦ not_end_between s.to s.from p q mid hb ha hp hq mid_point less (on_turned K p_on) (on_turned K q_on) order.0 order.1 (end_turned s.from s.to mid e)
        ]
