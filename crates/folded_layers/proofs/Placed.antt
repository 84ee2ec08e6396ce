-- What an isometry makes of sides and of sums of multiples, where places stand as vectors times a common denominator.
use Rattle.std.proofs.Common.{◌≡◌, ◌∙◌, ap, sym, refl, [], ◌∷◌, pos, negsuc, Bool, true, false, if◌then◌else◌}
use Rattle.std.specs.Ordering.{ordering_reverse}
use Rattle.std.specs.declared.cmp.Ordering.{Ordering}
use Rattle.std.specs.declared.cmp.Ordering.TheVariants.{Less, Equal, Greater}
use Rattle.algebra.specs.Order.{product_sign}
use Rattle.algebra.specs.OrderedField.{OrderedField}
use Rattle.algebra.proofs.Solvers.{ring, ring_from_multiple, multiple, no_equation, reads}
use Rattle.plane.specs.declared.point.Point.{Point}
use Rattle.plane.specs.Lines.{determinant, side}
use Rattle.scaled_plane.specs.declared.point.Pair.{Pair}
use Rattle.flat_fold.specs.declared.motion.Motion.{Motion}
use Rattle.flat_fold.specs.Motions.{IsIsometry, doubled_area, place}
use Rattle.flat_fold.proofs.MotionLaws.{keeps-area}
use Rattle.folded_layers.proofs.Balances.{AreBalanced}

-- a side as it is seen after the plane is turned over, or isn't
abbrev pub seen : Bool → Ordering → Ordering
seen false o = o
seen true o = ordering_reverse o

pub seen_once : (t : Bool) (o u : Ordering) → seen t o ≡ seen t u → o ≡ u
seen_once false o u e = e
seen_once true Less Less e = refl
seen_once true Equal Equal e = refl
seen_once true Greater Greater e = refl
seen_once true Less Equal e = absurd (cc)
seen_once true Less Greater e = absurd (cc)
seen_once true Equal Less e = absurd (cc)
seen_once true Equal Greater e = absurd (cc)
seen_once true Greater Less e = absurd (cc)
seen_once true Greater Equal e = absurd (cc)

module _ {A : Type 0} (F : OrderedField A) where
  -- the place times c
  abbrev pub scaled_up : A → Pair A → Point A
  scaled_up c a = record { x = F.mul a.x c; y = F.mul a.y c; w = F.int (pos 1) }

  areas_scaled : (c : A) (a b d : Pair A) → determinant F.ops (scaled_up c a) (scaled_up c b) (scaled_up c d) ≡ F.mul (F.mul c c) (doubled_area F a b d)
  areas_scaled c a b d = ring F.ring (c ∷ a.x ∷ a.y ∷ b.x ∷ b.y ∷ d.x ∷ d.y ∷ []) (search reads depth 40 fits 50000) (search reads depth 40 fits 50000) tt

  sides_scaled : (c : A) (a b d : Pair A) → F.sign c ≡ Greater → side F.ring (scaled_up c a) (scaled_up c b) (scaled_up c d) ≡ F.sign (doubled_area F a b d)
  sides_scaled c a b d h =
      ap F.sign (areas_scaled c a b d) ∙ F.sign_mul (F.mul c c) (doubled_area F a b d)
      ∙ ap (λ (o : Ordering). product_sign o (F.sign (doubled_area F a b d))) (F.sign_mul c c ∙ ap (λ (o : Ordering). product_sign o (F.sign c)) h ∙ h)

  area_seen : (t : Bool) (x : A) → F.sign (F.mul (if t then F.int (negsuc 0) else F.int (pos 1)) x) ≡ seen t (F.sign x)
  area_seen false x = F.sign_mul (F.int (pos 1)) x ∙ ap (λ (o : Ordering). product_sign o (F.sign x)) (F.sign_int (pos 1))
  area_seen true x = F.sign_mul (F.int (negsuc 0)) x ∙ ap (λ (o : Ordering). product_sign o (F.sign x)) (F.sign_int (negsuc 0))

  module _ (m : Motion A) (isometry : IsIsometry F m) (c d : A) (c_positive : F.sign c ≡ Greater) (d_positive : F.sign d ≡ Greater) where
    -- the sides are kept, or exchanged by a map that turns over
    pub sides_seen : (a b p : Pair A)
        → side F.ring (scaled_up d (place F m a)) (scaled_up d (place F m b)) (scaled_up d (place F m p)) ≡ seen m.turned (side F.ring (scaled_up c a) (scaled_up c b) (scaled_up c p))
    sides_seen a b p =
        sides_scaled d (place F m a) (place F m b) (place F m p) d_positive ∙ ap F.sign (keeps-area F m a b p isometry) ∙ area_seen m.turned (doubled_area F a b p)
        ∙ ap (seen m.turned) (sym (sides_scaled c a b p c_positive))

  above_zero : (n : A) → F.sign n ≡ Greater → ¬ (F.sign n ≡ Equal)
  above_zero n h z = cc

  module _ (c d : A) (d_positive : F.sign d ≡ Greater) (s t u v : A) (a b p q : Pair A) where
    balanced_at : (turned : Bool) (mc ms mp mr : A) → F.add (F.mul mc mc) (F.mul ms ms) ≡ F.int (pos 1)
        → let m : Motion A = record { c = mc; s = ms; p = mp; r = mr; turned = turned } in
        AreBalanced F.ring s t u v (scaled_up d (place F m a)) (scaled_up d (place F m b)) (scaled_up d (place F m p)) (scaled_up d (place F m q))
        → AreBalanced F.ring s t u v (scaled_up c a) (scaled_up c b) (scaled_up c p) (scaled_up c q)
    balanced_at false mc ms mp mr norm_one e = record {
      x = ring_from_multiple F.ring (c ∷ d ∷ s ∷ t ∷ u ∷ v ∷ a.x ∷ a.y ∷ b.x ∷ b.y ∷ p.x ∷ p.y ∷ q.x ∷ q.y ∷ mc ∷ ms ∷ mp ∷ mr ∷ [])
          (multiple (F.mul c mc) (search reads depth 40 fits 50000) (search reads depth 40 fits 50000) (search reads depth 40 fits 50000) e.x
          (multiple (F.mul c ms) (search reads depth 40 fits 50000) (search reads depth 40 fits 50000) (search reads depth 40 fits 50000) e.y
          (multiple (F.neg (F.mul (F.mul c d) (F.add (F.mul mp mc) (F.mul mr ms)))) (search reads depth 40 fits 50000) (search reads depth 40 fits 50000) (search reads depth 40 fits 50000) e.w
          (multiple (F.neg (F.mul (F.mul c d) (F.sub (F.add (F.mul s a.x) (F.mul t b.x)) (F.add (F.mul u p.x) (F.mul v q.x))))) (search reads depth 40 fits 50000) (search reads depth 40 fits 50000) (search reads depth 40 fits 50000) norm_one
          no_equation))))
          (search reads depth 40 fits 50000) (above_zero d d_positive) (search reads depth 40 fits 50000) (search reads depth 40 fits 50000) tt;
      y = ring_from_multiple F.ring (c ∷ d ∷ s ∷ t ∷ u ∷ v ∷ a.x ∷ a.y ∷ b.x ∷ b.y ∷ p.x ∷ p.y ∷ q.x ∷ q.y ∷ mc ∷ ms ∷ mp ∷ mr ∷ [])
          (multiple (F.neg (F.mul c ms)) (search reads depth 40 fits 50000) (search reads depth 40 fits 50000) (search reads depth 40 fits 50000) e.x
          (multiple (F.mul c mc) (search reads depth 40 fits 50000) (search reads depth 40 fits 50000) (search reads depth 40 fits 50000) e.y
          (multiple (F.neg (F.mul (F.mul c d) (F.sub (F.mul mr mc) (F.mul mp ms)))) (search reads depth 40 fits 50000) (search reads depth 40 fits 50000) (search reads depth 40 fits 50000) e.w
          (multiple (F.neg (F.mul (F.mul c d) (F.sub (F.add (F.mul s a.y) (F.mul t b.y)) (F.add (F.mul u p.y) (F.mul v q.y))))) (search reads depth 40 fits 50000) (search reads depth 40 fits 50000) (search reads depth 40 fits 50000) norm_one
          no_equation))))
          (search reads depth 40 fits 50000) (above_zero d d_positive) (search reads depth 40 fits 50000) (search reads depth 40 fits 50000) tt;
      w = e.w;
    }
    balanced_at true mc ms mp mr norm_one e = record {
      x = ring_from_multiple F.ring (c ∷ d ∷ s ∷ t ∷ u ∷ v ∷ a.x ∷ a.y ∷ b.x ∷ b.y ∷ p.x ∷ p.y ∷ q.x ∷ q.y ∷ mc ∷ ms ∷ mp ∷ mr ∷ [])
          (multiple (F.mul c mc) (search reads depth 40 fits 50000) (search reads depth 40 fits 50000) (search reads depth 40 fits 50000) e.x
          (multiple (F.mul c ms) (search reads depth 40 fits 50000) (search reads depth 40 fits 50000) (search reads depth 40 fits 50000) e.y
          (multiple (F.neg (F.mul (F.mul c d) (F.add (F.mul mp mc) (F.mul mr ms)))) (search reads depth 40 fits 50000) (search reads depth 40 fits 50000) (search reads depth 40 fits 50000) e.w
          (multiple (F.neg (F.mul (F.mul c d) (F.sub (F.add (F.mul s a.x) (F.mul t b.x)) (F.add (F.mul u p.x) (F.mul v q.x))))) (search reads depth 40 fits 50000) (search reads depth 40 fits 50000) (search reads depth 40 fits 50000) norm_one
          no_equation))))
          (search reads depth 40 fits 50000) (above_zero d d_positive) (search reads depth 40 fits 50000) (search reads depth 40 fits 50000) tt;
      y = ring_from_multiple F.ring (c ∷ d ∷ s ∷ t ∷ u ∷ v ∷ a.x ∷ a.y ∷ b.x ∷ b.y ∷ p.x ∷ p.y ∷ q.x ∷ q.y ∷ mc ∷ ms ∷ mp ∷ mr ∷ [])
          (multiple (F.mul c ms) (search reads depth 40 fits 50000) (search reads depth 40 fits 50000) (search reads depth 40 fits 50000) e.x
          (multiple (F.neg (F.mul c mc)) (search reads depth 40 fits 50000) (search reads depth 40 fits 50000) (search reads depth 40 fits 50000) e.y
          (multiple (F.neg (F.mul (F.mul c d) (F.sub (F.mul mp ms) (F.mul mr mc)))) (search reads depth 40 fits 50000) (search reads depth 40 fits 50000) (search reads depth 40 fits 50000) e.w
          (multiple (F.neg (F.mul (F.mul c d) (F.sub (F.add (F.mul s a.y) (F.mul t b.y)) (F.add (F.mul u p.y) (F.mul v q.y))))) (search reads depth 40 fits 50000) (search reads depth 40 fits 50000) (search reads depth 40 fits 50000) norm_one
          no_equation))))
          (search reads depth 40 fits 50000) (above_zero d d_positive) (search reads depth 40 fits 50000) (search reads depth 40 fits 50000) tt;
      w = e.w;
    }

    -- sums that are one after an isometry were one before it
    pub balanced_before : (m : Motion A) → IsIsometry F m
        → AreBalanced F.ring s t u v (scaled_up d (place F m a)) (scaled_up d (place F m b)) (scaled_up d (place F m p)) (scaled_up d (place F m q))
        → AreBalanced F.ring s t u v (scaled_up c a) (scaled_up c b) (scaled_up c p) (scaled_up c q)
    balanced_before m isometry e = balanced_at m.turned m.c m.s m.p m.r isometry e
