-- Two sums of multiples of points that are one vector: a common point in the middle of two segments makes such sums, and they
-- make one.
use Rattle.std.proofs.Common.{◌≡◌, ◌∙◌, ap, sym, [], ◌∷◌, pos}
use Rattle.std.specs.declared.cmp.Ordering.TheVariants.{Greater}
use Rattle.algebra.specs.OrderedRing.{OrderedRing}
use Rattle.algebra.proofs.Solvers.{ring_from, multiple, no_equation, reads}
use Rattle.plane.specs.declared.point.Point.{Point}
use Rattle.plane.specs.Points.{combination}
use Rattle.plane.specs.Segments.{IsBetween}
use Rattle.plane.proofs.Lines.{once}

module _ {A : Type 0} (K : OrderedRing A) where
  -- s a + t b is u p + v q
  pub record AreBalanced (s t u v : A) (a b p q : Point A) : Type 0 where
    pub x : K.add (K.mul s a.x) (K.mul t b.x) ≡ K.add (K.mul u p.x) (K.mul v q.x)
    pub y : K.add (K.mul s a.y) (K.mul t b.y) ≡ K.add (K.mul u p.y) (K.mul v q.y)
    pub w : K.add (K.mul s a.w) (K.mul t b.w) ≡ K.add (K.mul u p.w) (K.mul v q.w)

  exchanged : (f s t g u v a b p q r : A) → K.mul f r ≡ K.add (K.mul s a) (K.mul t b) → K.mul g r ≡ K.add (K.mul u p) (K.mul v q)
      → K.add (K.mul (K.mul g s) a) (K.mul (K.mul g t) b) ≡ K.add (K.mul (K.mul f u) p) (K.mul (K.mul f v) q)
  exchanged f s t g u v a b p q r first second =
      ring_from K (f ∷ s ∷ t ∷ g ∷ u ∷ v ∷ a ∷ b ∷ p ∷ q ∷ r ∷ [])
      (multiple (K.neg g) (search reads depth 40 fits 50000) (search reads depth 40 fits 50000) (search reads depth 40 fits 50000) first
      (multiple f (search reads depth 40 fits 50000) (search reads depth 40 fits 50000) (search reads depth 40 fits 50000) second no_equation))
      (search reads depth 40 fits 50000) (search reads depth 40 fits 50000) tt

  -- a common point, times both factors
  pub balanced_by : (a b p q r : Point A) (m : IsBetween K a b r) (n : IsBetween K p q r)
      → AreBalanced (K.mul n.factor m.from_share) (K.mul n.factor m.to_share) (K.mul m.factor n.from_share) (K.mul m.factor n.to_share) a b p q
  balanced_by a b p q r m n = record {
    x = exchanged m.factor m.from_share m.to_share n.factor n.from_share n.to_share a.x b.x p.x q.x r.x (ap (λ (z : Point A). z.x) m.is) (ap (λ (z : Point A). z.x) n.is);
    y = exchanged m.factor m.from_share m.to_share n.factor n.from_share n.to_share a.y b.y p.y q.y r.y (ap (λ (z : Point A). z.y) m.is) (ap (λ (z : Point A). z.y) n.is);
    w = exchanged m.factor m.from_share m.to_share n.factor n.from_share n.to_share a.w b.w p.w q.w r.w (ap (λ (z : Point A). z.w) m.is) (ap (λ (z : Point A). z.w) n.is);
  }

  -- the sum is between the ends of both
  pub sum_between : (s t : A) (a b : Point A) → K.sign s ≡ Greater → K.sign t ≡ Greater → IsBetween K a b (combination K.ops s a t b)
  sum_between s t a b s_positive t_positive = record {
    factor = K.int (pos 1);
    from_share = s;
    to_share = t;
    factor_positive = K.sign_int (pos 1);
    from_positive = s_positive;
    to_positive = t_positive;
    is = sym (once K (combination K.ops s a t b));
  }

  pub other_between : (s t u v : A) (a b p q : Point A) → K.sign u ≡ Greater → K.sign v ≡ Greater → AreBalanced s t u v a b p q → IsBetween K p q (combination K.ops s a t b)
  other_between s t u v a b p q u_positive v_positive e = record {
    factor = K.int (pos 1);
    from_share = u;
    to_share = v;
    factor_positive = K.sign_int (pos 1);
    from_positive = u_positive;
    to_positive = v_positive;
    is = sym (once K (combination K.ops s a t b)) ∙ (λ i. record { x = e.x i; y = e.y i; w = e.w i });
  }
