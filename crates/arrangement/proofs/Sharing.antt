-- Segments with a common point share an x, and a test of two that aren't parallel names each common point.
use mathlib.Core.Path.{◌≡◌, refl, sym, ap, subst, ◌∙◌}
use mathlib.Core.List.{[], ◌∷◌}
use mathlib.Core.Bool.{Bool, true, false}
use lib.IntN.{pos}
use Rattle.std.proofs.Common.{inl, inr}
use Rattle.std.specs.Prelude.{IsTrue, if◌then◌else◌, ◌&&◌}
use Rattle.std.specs.Ordering.{is_le, is_ge, ordering_reverse}
use Rattle.std.specs.declared.cmp.Ordering.{Ordering}
use Rattle.std.specs.declared.cmp.Ordering.TheVariants.{Less, Equal, Greater}
use Rattle.algebra.specs.OrderedRing.{OrderedRing}
use Rattle.algebra.proofs.Solvers.{reads, ring, sign_from_multiple, known, no_sign, positive, not_negative, not_positive, at_zero, given, sum, product, negated}
use Rattle.plane.specs.declared.point.Point.{Point}
use Rattle.scaled_plane.specs.declared.point.Segment.{Segment}
use Rattle.plane.specs.Points.{IsPoint, IsSamePoint, point_order}
use Rattle.plane.specs.Points.{combination}
use Rattle.plane.specs.Segments.{IsOn}
use Rattle.plane.specs.Directions.{AreParallel}
use Rattle.scaled_plane.specs.Segments.{IsCommon}
use Rattle.plane.specs.Lines.{crossing}
use Rattle.scaled_plane.specs.Counts.{x_order, left_end, right_end, share_x}
use Rattle.plane.proofs.Shares.{combination_point, shares}
use Rattle.plane.proofs.Order.{x_turned, equal_of_same}
use Rattle.plane.proofs.Lines.{same_turned, same_through}
use Rattle.plane.proofs.OnSegments.{on_turned, from_is_on, to_is_on}
use Rattle.plane.proofs.Crossings.{common_is_crossing, crossing_point}
use Rattle.segment_tests.specs.declared.answer.Meet.{Meet}
use Rattle.segment_tests.specs.declared.answer.Meet.TheVariants.{Apart, Touches, Crosses, Along}
use Rattle.segment_tests.specs.Meets.{IsMeet, IsOneEnd}

pub le_of_not_le : (o : Ordering) → is_le o ≡ false → o ≡ Greater
le_of_not_le Less h = absurd (cc)
le_of_not_le Equal h = absurd (cc)
le_of_not_le Greater h = refl

module _ {A : Type 0} (K : OrderedRing A) where
  -- p stands at or left of q
  abbrev pub Upto : Point A → Point A → Type 0
  Upto p q = IsTrue (is_le (x_order K p q))

  -- a combination c of a and b stands right of a, where b does
  from_first : (a b p : Point A) (s t : A) → IsPoint K a → IsPoint K b → IsPoint K p → IsTrue (is_ge (K.sign s)) → IsTrue (is_ge (K.sign t))
      → K.sign (K.add s t) ≡ Greater → IsSamePoint K p (combination K.ops s a t b) → Upto a b → Upto a p
  from_first a b p s t ha hb hp hs ht both is le =
      let zero : K.sign (K.sub (K.mul p.x (combination K.ops s a t b).w) (K.mul (combination K.ops s a t b).x p.w)) ≡ Equal
      = ap (λ u. K.sign (K.sub u (K.mul (combination K.ops s a t b).x p.w))) is.same_x
      ∙ ap K.sign (ring K ((combination K.ops s a t b).x ∷ p.w ∷ []) (search reads depth 40 fits 50000) (search reads depth 40 fits 50000) tt) ∙ K.sign_int (pos 0) in
      sign_from_multiple K (a.x ∷ a.w ∷ b.x ∷ b.w ∷ p.x ∷ p.w ∷ s ∷ t ∷ [])
      (known not_positive (search reads depth 40 fits 50000) le (known not_negative (search reads depth 40 fits 50000) ht (known positive (search reads depth 40 fits 50000) hp (known positive (search reads depth 40 fits 50000) ha (known at_zero (search reads depth 40 fits 50000) zero no_sign)))))
      not_positive (search reads depth 40 fits 50000) (combination_point K a b s t ha hb hs ht both) (search reads depth 40 fits 50000)
      (sum (product (given 2) (product (given 1) (given 0))) (negated (product (given 3) (given 4)))) tt tt

  pub up_chain : (p q r : Point A) → IsPoint K p → IsPoint K q → IsPoint K r → Upto p q → Upto q r → Upto p r
  up_chain p q r hp hq hr h k =
      sign_from_multiple K (p.x ∷ p.w ∷ q.x ∷ q.w ∷ r.x ∷ r.w ∷ [])
      (known not_positive (search reads depth 40 fits 50000) h (known not_positive (search reads depth 40 fits 50000) k (known positive (search reads depth 40 fits 50000) hp (known positive (search reads depth 40 fits 50000) hr no_sign))))
      not_positive (search reads depth 40 fits 50000) hq (search reads depth 40 fits 50000) (sum (product (given 3) (given 0)) (product (given 2) (given 1))) tt tt

  to_second : (a b p : Point A) (s t : A) → IsPoint K a → IsPoint K b → IsPoint K p → IsTrue (is_ge (K.sign s)) → IsTrue (is_ge (K.sign t))
      → K.sign (K.add s t) ≡ Greater → IsSamePoint K p (combination K.ops s a t b) → Upto a b → Upto p b
  to_second a b p s t ha hb hp hs ht both is le =
      let zero : K.sign (K.sub (K.mul p.x (combination K.ops s a t b).w) (K.mul (combination K.ops s a t b).x p.w)) ≡ Equal
      = ap (λ u. K.sign (K.sub u (K.mul (combination K.ops s a t b).x p.w))) is.same_x
      ∙ ap K.sign (ring K ((combination K.ops s a t b).x ∷ p.w ∷ []) (search reads depth 40 fits 50000) (search reads depth 40 fits 50000) tt) ∙ K.sign_int (pos 0) in
      sign_from_multiple K (a.x ∷ a.w ∷ b.x ∷ b.w ∷ p.x ∷ p.w ∷ s ∷ t ∷ [])
      (known not_positive (search reads depth 40 fits 50000) le (known not_negative (search reads depth 40 fits 50000) hs (known positive (search reads depth 40 fits 50000) hp (known positive (search reads depth 40 fits 50000) hb (known at_zero (search reads depth 40 fits 50000) zero no_sign)))))
      not_positive (search reads depth 40 fits 50000) (combination_point K a b s t ha hb hs ht both) (search reads depth 40 fits 50000)
      (sum (product (given 2) (product (given 1) (given 0))) (product (given 3) (given 4))) tt tt

  -- a point of a segment has an x between those of its ends
  between_by : (a b p : Point A) (o : Bool) → IsPoint K a → IsPoint K b → IsPoint K p → IsOn K a b p → is_le (x_order K a b) ≡ o
      → Upto (if o then a else b) p × Upto p (if o then b else a)
  between_by a b p true ha hb hp on e =
      let h = shares K hp on in (
        from_first a b p h.s h.t ha hb hp h.s_from_zero h.t_from_zero h.not_both_zero h.is e,
        to_second a b p h.s h.t ha hb hp h.s_from_zero h.t_from_zero h.not_both_zero h.is e,
      )
  between_by a b p false ha hb hp on e =
      let turned : Upto b a = ap is_le (x_turned K a b ∙ ap ordering_reverse (le_of_not_le (x_order K a b) e)) in
      let k = shares K hp (on_turned K on) in (
        from_first b a p k.s k.t hb ha hp k.s_from_zero k.t_from_zero k.not_both_zero k.is turned,
        to_second b a p k.s k.t hb ha hp k.s_from_zero k.t_from_zero k.not_both_zero k.is turned,
      )

  pub between_x : (s : Segment A) (p : Point A) → IsPoint K s.from → IsPoint K s.to → IsPoint K p → IsOn K s.from s.to p
      → Upto (left_end K s) p × Upto p (right_end K s)
  between_x s p ha hb hp h = between_by s.from s.to p (is_le (x_order K s.from s.to)) ha hb hp h refl

  pub end_point : (o : Bool) (a b : Point A) → IsPoint K a → IsPoint K b → IsPoint K (if o then a else b)
  end_point true a b ha hb = ha
  end_point false a b ha hb = hb

  pub both_true : (o p : Bool) → IsTrue o → IsTrue p → IsTrue (o && p)
  both_true true p h k = k
  both_true false p h k = absurd (cc)

  -- two closed segments with a common point share an x
  pub common_share_x : (s t : Segment A) (p : Point A) → IsPoint K s.from → IsPoint K s.to → IsPoint K t.from → IsPoint K t.to → IsPoint K p
      → IsCommon K s t p → IsTrue (share_x K s t)
  common_share_x s t p ha hb hc hd hp h =
      let on_s = between_x s p ha hb hp h.0 in
      let on_t = between_x t p hc hd hp h.1 in
      let left_s = end_point (is_le (x_order K s.from s.to)) s.from s.to ha hb in
      let right_s = end_point (is_le (x_order K s.from s.to)) s.to s.from hb ha in
      let left_t = end_point (is_le (x_order K t.from t.to)) t.from t.to hc hd in
      let right_t = end_point (is_le (x_order K t.from t.to)) t.to t.from hd hc in
      both_true (is_le (x_order K (left_end K s) (right_end K t))) (is_le (x_order K (left_end K t) (right_end K s)))
      (up_chain (left_end K s) p (right_end K t) left_s hp right_t on_s.0 on_t.1)
      (up_chain (left_end K t) p (right_end K s) left_t hp right_s on_t.0 on_s.1)

  -- ---- what a test names

  -- p is the one point that the answer names
  abbrev pub Names : Meet A → Point A → Type 0
  Names Apart p = ⊥
  Names (Touches q) p = IsSamePoint K p q
  Names (Crosses q) p = IsSamePoint K p q
  Names (Along q r) p = ⊥

  module _ (s t : Segment A) (ha : IsPoint K s.from) (hb : IsPoint K s.to) (hc : IsPoint K t.from) (hd : IsPoint K t.to)
      (across : ¬ AreParallel K s.from s.to t.from t.to) where
    -- two that aren't parallel have at most one common point
    pub one_common : (p q : Point A) → IsPoint K p → IsPoint K q → IsCommon K s t p → IsCommon K s t q → IsSamePoint K p q
    one_common p q hp hq h k =
        let cross : Point A = crossing K s.from s.to t.from t.to in
        let there : IsPoint K cross = crossing_point K s.from s.to t.from t.to across in
        same_through K p cross q there (common_is_crossing K s.from s.to t.from t.to p ha hb hc hd (hp, h.0, h.1))
        (same_turned K (common_is_crossing K s.from s.to t.from t.to q ha hb hc hd (hq, k.0, k.1)))

    no_stretch : (q r : Point A) → IsPoint K q → IsPoint K r → point_order K q r ≡ Less → IsCommon K s t q → IsCommon K s t r → ⊥
    no_stretch q r hq hr less h k =
        absurd (let no : Less ≡ Equal = sym less ∙ equal_of_same K q r (one_common q r hq hr h k) in cc)

    one_end_point : (q : Point A) → IsOneEnd K s t q → IsPoint K q
    one_end_point q (inl e) = subst (IsPoint K) (sym e) ha
    one_end_point q (inr (inl e)) = subst (IsPoint K) (sym e) hb
    one_end_point q (inr (inr (inl e))) = subst (IsPoint K) (sym e) hc
    one_end_point q (inr (inr (inr e))) = subst (IsPoint K) (sym e) hd

    pub test_names : (answer : Meet A) (p : Point A) → IsMeet K s t answer → IsPoint K p → IsCommon K s t p → Names answer p
    test_names Apart p m hp h = m p hp h
    test_names (Touches q) p m hp h = m.0.only p hp h
    test_names (Crosses q) p m hp h = m.0.only p hp h
    test_names (Along q r) p m hp h =
        let hq = one_end_point q m.0 in
        let hr = one_end_point r m.1 in
        no_stretch q r hq hr m.2 ((m.3 q hq).1 (from_is_on K q r)) ((m.3 r hr).1 (to_is_on K q r))
