-- Maps of the plane: what they keep, and when two are one.
use Rattle.std.proofs.Common.{◌≡◌, ◌∙◌, ap, sym, refl, [], ◌∷◌, pos, negsuc, Bool, true, false, not, if◌then◌else◌}
use Rattle.std.specs.declared.cmp.Ordering.{Ordering}
use Rattle.std.specs.declared.cmp.Ordering.TheVariants.{Less, Equal, Greater}
use Rattle.algebra.specs.OrderedField.{OrderedField}
use Rattle.algebra.proofs.Solvers.{ring, ring_from, ring_from_multiple, multiple, no_equation, reads, sign_from, known, no_sign, positive, negative, at_zero, given, product, sum}
use Rattle.scaled_plane.specs.declared.point.Pair.{Pair}
use Rattle.flat_fold.specs.declared.motion.Motion.{Motion}
use Rattle.flat_fold.specs.Motions.{turned_by, place, identity, composed, mirror, norm, reflection, IsIsometry, squared_distance, doubled_area, IsOnLine, handedness}
use Rattle.algebra.specs.Order.{product_sign}

module _ {A : Type 0} (F : OrderedField A) where
  pub pair_is : (a b : Pair A) → a.x ≡ b.x → a.y ≡ b.y → a ≡ b
  pair_is a b x y = λ i. record { x = x i; y = y i }

  motion_is : (m n : Motion A) → m.c ≡ n.c → m.s ≡ n.s → m.p ≡ n.p → m.r ≡ n.r → m.turned ≡ n.turned → m ≡ n
  motion_is m n c s p r t = λ i. record { c = c i; s = s i; p = p i; r = r i; turned = t i }

  -- ---- composition

  composed_at : (t u : Bool) (c s p r d z q o : A) (a : Pair A)
      → let m : Motion A = record { c = c; s = s; p = p; r = r; turned = t } in let n : Motion A = record { c = d; s = z; p = q; r = o; turned = u } in
      place F (composed F m n) a ≡ place F m (place F n a)
  composed_at false false c s p r d z q o a =
      pair_is _ _
      (ring F.ring (c ∷ s ∷ p ∷ r ∷ d ∷ z ∷ q ∷ o ∷ a.x ∷ a.y ∷ []) (search reads depth 40 fits 50000) (search reads depth 40 fits 50000) tt)
      (ring F.ring (c ∷ s ∷ p ∷ r ∷ d ∷ z ∷ q ∷ o ∷ a.x ∷ a.y ∷ []) (search reads depth 40 fits 50000) (search reads depth 40 fits 50000) tt)
  composed_at false true c s p r d z q o a =
      pair_is _ _
      (ring F.ring (c ∷ s ∷ p ∷ r ∷ d ∷ z ∷ q ∷ o ∷ a.x ∷ a.y ∷ []) (search reads depth 40 fits 50000) (search reads depth 40 fits 50000) tt)
      (ring F.ring (c ∷ s ∷ p ∷ r ∷ d ∷ z ∷ q ∷ o ∷ a.x ∷ a.y ∷ []) (search reads depth 40 fits 50000) (search reads depth 40 fits 50000) tt)
  composed_at true false c s p r d z q o a =
      pair_is _ _
      (ring F.ring (c ∷ s ∷ p ∷ r ∷ d ∷ z ∷ q ∷ o ∷ a.x ∷ a.y ∷ []) (search reads depth 40 fits 50000) (search reads depth 40 fits 50000) tt)
      (ring F.ring (c ∷ s ∷ p ∷ r ∷ d ∷ z ∷ q ∷ o ∷ a.x ∷ a.y ∷ []) (search reads depth 40 fits 50000) (search reads depth 40 fits 50000) tt)
  composed_at true true c s p r d z q o a =
      pair_is _ _
      (ring F.ring (c ∷ s ∷ p ∷ r ∷ d ∷ z ∷ q ∷ o ∷ a.x ∷ a.y ∷ []) (search reads depth 40 fits 50000) (search reads depth 40 fits 50000) tt)
      (ring F.ring (c ∷ s ∷ p ∷ r ∷ d ∷ z ∷ q ∷ o ∷ a.x ∷ a.y ∷ []) (search reads depth 40 fits 50000) (search reads depth 40 fits 50000) tt)

  pub place-composed : (m n : Motion A) (a : Pair A) → place F (composed F m n) a ≡ place F m (place F n a)
  place-composed m n a = composed_at m.turned n.turned m.c m.s m.p m.r n.c n.s n.p n.r a

  pub place-identity : (a : Pair A) → place F (identity F) a ≡ a
  place-identity a =
      pair_is _ _
      (ring F.ring (a.x ∷ a.y ∷ []) (search reads depth 40 fits 50000) (search reads depth 40 fits 50000) tt)
      (ring F.ring (a.x ∷ a.y ∷ []) (search reads depth 40 fits 50000) (search reads depth 40 fits 50000) tt)

  -- ---- two different points

  pub no_difference : (a b : A) → F.sign (F.sub b a) ≡ Equal → a ≡ b
  no_difference a b h =
      ring_from F.ring (a ∷ b ∷ []) (multiple (F.int (negsuc 0)) (search reads depth 40 fits 50000) (search reads depth 40 fits 50000) (search reads depth 40 fits 50000) (F.sign_zero (F.sub b a) h) no_equation)
      (search reads depth 40 fits 50000) (search reads depth 40 fits 50000) tt

  -- a sum of squares that aren't all zero is above zero
  norm_at : (u v : A) (h k : Ordering) → F.sign u ≡ h → F.sign v ≡ k → ¬ ((F.sign u ≡ Equal) × (F.sign v ≡ Equal)) → F.sign (norm F u v) ≡ Greater
  norm_at u v Equal Equal eu ev differ = absurd (differ (eu, ev))
  norm_at u v Less Less eu ev differ =
      sign_from F.ring (u ∷ v ∷ []) (known negative (search reads depth 40 fits 50000) eu (known negative (search reads depth 40 fits 50000) ev no_sign)) positive (search reads depth 40 fits 50000)
      (sum (product (given 0) (given 0)) (product (given 1) (given 1))) tt tt
  norm_at u v Less Equal eu ev differ =
      sign_from F.ring (u ∷ v ∷ []) (known negative (search reads depth 40 fits 50000) eu (known at_zero (search reads depth 40 fits 50000) ev no_sign)) positive (search reads depth 40 fits 50000)
      (sum (product (given 0) (given 0)) (product (given 1) (given 1))) tt tt
  norm_at u v Less Greater eu ev differ =
      sign_from F.ring (u ∷ v ∷ []) (known negative (search reads depth 40 fits 50000) eu (known positive (search reads depth 40 fits 50000) ev no_sign)) positive (search reads depth 40 fits 50000)
      (sum (product (given 0) (given 0)) (product (given 1) (given 1))) tt tt
  norm_at u v Equal Less eu ev differ =
      sign_from F.ring (u ∷ v ∷ []) (known at_zero (search reads depth 40 fits 50000) eu (known negative (search reads depth 40 fits 50000) ev no_sign)) positive (search reads depth 40 fits 50000)
      (sum (product (given 0) (given 0)) (product (given 1) (given 1))) tt tt
  norm_at u v Equal Greater eu ev differ =
      sign_from F.ring (u ∷ v ∷ []) (known at_zero (search reads depth 40 fits 50000) eu (known positive (search reads depth 40 fits 50000) ev no_sign)) positive (search reads depth 40 fits 50000)
      (sum (product (given 0) (given 0)) (product (given 1) (given 1))) tt tt
  norm_at u v Greater Less eu ev differ =
      sign_from F.ring (u ∷ v ∷ []) (known positive (search reads depth 40 fits 50000) eu (known negative (search reads depth 40 fits 50000) ev no_sign)) positive (search reads depth 40 fits 50000)
      (sum (product (given 0) (given 0)) (product (given 1) (given 1))) tt tt
  norm_at u v Greater Equal eu ev differ =
      sign_from F.ring (u ∷ v ∷ []) (known positive (search reads depth 40 fits 50000) eu (known at_zero (search reads depth 40 fits 50000) ev no_sign)) positive (search reads depth 40 fits 50000)
      (sum (product (given 0) (given 0)) (product (given 1) (given 1))) tt tt
  norm_at u v Greater Greater eu ev differ =
      sign_from F.ring (u ∷ v ∷ []) (known positive (search reads depth 40 fits 50000) eu (known positive (search reads depth 40 fits 50000) ev no_sign)) positive (search reads depth 40 fits 50000)
      (sum (product (given 0) (given 0)) (product (given 1) (given 1))) tt tt

  pub norm_positive : (a b : Pair A) → ¬ (a ≡ b) → F.sign (norm F (F.sub b.x a.x) (F.sub b.y a.y)) ≡ Greater
  norm_positive a b differ =
      norm_at (F.sub b.x a.x) (F.sub b.y a.y) _ _ refl refl (λ h. differ (pair_is a b (no_difference a.x b.x h.0) (no_difference a.y b.y h.1)))

  above_zero : (n : A) → F.sign n ≡ Greater → ¬ (F.sign n ≡ Equal)
  above_zero n h z = cc

  -- ---- maps that agree on two different points

  module _ (c s p r d z q o : A) (a b : Pair A) (differ : ¬ (a ≡ b)) where
    agree_false : let m : Motion A = record { c = c; s = s; p = p; r = r; turned = false } in let n : Motion A = record { c = d; s = z; p = q; r = o; turned = false } in
        place F m a ≡ place F n a → place F m b ≡ place F n b → m ≡ n
    agree_false at_a at_b =
        let c_same : c ≡ d = ring_from_multiple F.ring (c ∷ s ∷ p ∷ r ∷ d ∷ z ∷ q ∷ o ∷ a.x ∷ a.y ∷ b.x ∷ b.y ∷ []) (multiple (F.sub b.x a.x) (search reads depth 40 fits 50000) (search reads depth 40 fits 50000) (search reads depth 40 fits 50000) (ap (λ (w : Pair A). w.x) at_b) (multiple (F.neg (F.sub b.x a.x)) (search reads depth 40 fits 50000) (search reads depth 40 fits 50000) (search reads depth 40 fits 50000) (ap (λ (w : Pair A). w.x) at_a) (multiple (F.sub b.y a.y) (search reads depth 40 fits 50000) (search reads depth 40 fits 50000) (search reads depth 40 fits 50000) (ap (λ (w : Pair A). w.y) at_b) (multiple (F.neg (F.sub b.y a.y)) (search reads depth 40 fits 50000) (search reads depth 40 fits 50000) (search reads depth 40 fits 50000) (ap (λ (w : Pair A). w.y) at_a) no_equation)))) (search reads depth 40 fits 50000) (above_zero _ (norm_positive a b differ)) (search reads depth 40 fits 50000) (search reads depth 40 fits 50000) tt in
        let s_same : s ≡ z = ring_from_multiple F.ring (c ∷ s ∷ p ∷ r ∷ d ∷ z ∷ q ∷ o ∷ a.x ∷ a.y ∷ b.x ∷ b.y ∷ []) (multiple (F.sub b.x a.x) (search reads depth 40 fits 50000) (search reads depth 40 fits 50000) (search reads depth 40 fits 50000) (ap (λ (w : Pair A). w.y) at_b) (multiple (F.neg (F.sub b.x a.x)) (search reads depth 40 fits 50000) (search reads depth 40 fits 50000) (search reads depth 40 fits 50000) (ap (λ (w : Pair A). w.y) at_a) (multiple (F.neg (F.sub b.y a.y)) (search reads depth 40 fits 50000) (search reads depth 40 fits 50000) (search reads depth 40 fits 50000) (ap (λ (w : Pair A). w.x) at_b) (multiple (F.sub b.y a.y) (search reads depth 40 fits 50000) (search reads depth 40 fits 50000) (search reads depth 40 fits 50000) (ap (λ (w : Pair A). w.x) at_a) no_equation)))) (search reads depth 40 fits 50000) (above_zero _ (norm_positive a b differ)) (search reads depth 40 fits 50000) (search reads depth 40 fits 50000) tt in
        let p_same : p ≡ q = ring_from F.ring (c ∷ s ∷ p ∷ r ∷ d ∷ z ∷ q ∷ o ∷ a.x ∷ a.y ∷ b.x ∷ b.y ∷ []) (multiple (F.int (pos 1)) (search reads depth 40 fits 50000) (search reads depth 40 fits 50000) (search reads depth 40 fits 50000) (ap (λ (w : Pair A). w.x) at_a) (multiple (F.neg a.x) (search reads depth 40 fits 50000) (search reads depth 40 fits 50000) (search reads depth 40 fits 50000) c_same (multiple a.y (search reads depth 40 fits 50000) (search reads depth 40 fits 50000) (search reads depth 40 fits 50000) s_same no_equation))) (search reads depth 40 fits 50000) (search reads depth 40 fits 50000) tt in
        let r_same : r ≡ o = ring_from F.ring (c ∷ s ∷ p ∷ r ∷ d ∷ z ∷ q ∷ o ∷ a.x ∷ a.y ∷ b.x ∷ b.y ∷ []) (multiple (F.int (pos 1)) (search reads depth 40 fits 50000) (search reads depth 40 fits 50000) (search reads depth 40 fits 50000) (ap (λ (w : Pair A). w.y) at_a) (multiple (F.neg a.x) (search reads depth 40 fits 50000) (search reads depth 40 fits 50000) (search reads depth 40 fits 50000) s_same (multiple (F.neg a.y) (search reads depth 40 fits 50000) (search reads depth 40 fits 50000) (search reads depth 40 fits 50000) c_same no_equation))) (search reads depth 40 fits 50000) (search reads depth 40 fits 50000) tt in
        motion_is _ _ c_same s_same p_same r_same refl

    agree_true : let m : Motion A = record { c = c; s = s; p = p; r = r; turned = true } in let n : Motion A = record { c = d; s = z; p = q; r = o; turned = true } in
        place F m a ≡ place F n a → place F m b ≡ place F n b → m ≡ n
    agree_true at_a at_b =
        let c_same : c ≡ d = ring_from_multiple F.ring (c ∷ s ∷ p ∷ r ∷ d ∷ z ∷ q ∷ o ∷ a.x ∷ a.y ∷ b.x ∷ b.y ∷ []) (multiple (F.sub b.x a.x) (search reads depth 40 fits 50000) (search reads depth 40 fits 50000) (search reads depth 40 fits 50000) (ap (λ (w : Pair A). w.x) at_b) (multiple (F.neg (F.sub b.x a.x)) (search reads depth 40 fits 50000) (search reads depth 40 fits 50000) (search reads depth 40 fits 50000) (ap (λ (w : Pair A). w.x) at_a) (multiple (F.neg (F.sub b.y a.y)) (search reads depth 40 fits 50000) (search reads depth 40 fits 50000) (search reads depth 40 fits 50000) (ap (λ (w : Pair A). w.y) at_b) (multiple (F.sub b.y a.y) (search reads depth 40 fits 50000) (search reads depth 40 fits 50000) (search reads depth 40 fits 50000) (ap (λ (w : Pair A). w.y) at_a) no_equation)))) (search reads depth 40 fits 50000) (above_zero _ (norm_positive a b differ)) (search reads depth 40 fits 50000) (search reads depth 40 fits 50000) tt in
        let s_same : s ≡ z = ring_from_multiple F.ring (c ∷ s ∷ p ∷ r ∷ d ∷ z ∷ q ∷ o ∷ a.x ∷ a.y ∷ b.x ∷ b.y ∷ []) (multiple (F.sub b.y a.y) (search reads depth 40 fits 50000) (search reads depth 40 fits 50000) (search reads depth 40 fits 50000) (ap (λ (w : Pair A). w.x) at_b) (multiple (F.neg (F.sub b.y a.y)) (search reads depth 40 fits 50000) (search reads depth 40 fits 50000) (search reads depth 40 fits 50000) (ap (λ (w : Pair A). w.x) at_a) (multiple (F.sub b.x a.x) (search reads depth 40 fits 50000) (search reads depth 40 fits 50000) (search reads depth 40 fits 50000) (ap (λ (w : Pair A). w.y) at_b) (multiple (F.neg (F.sub b.x a.x)) (search reads depth 40 fits 50000) (search reads depth 40 fits 50000) (search reads depth 40 fits 50000) (ap (λ (w : Pair A). w.y) at_a) no_equation)))) (search reads depth 40 fits 50000) (above_zero _ (norm_positive a b differ)) (search reads depth 40 fits 50000) (search reads depth 40 fits 50000) tt in
        let p_same : p ≡ q = ring_from F.ring (c ∷ s ∷ p ∷ r ∷ d ∷ z ∷ q ∷ o ∷ a.x ∷ a.y ∷ b.x ∷ b.y ∷ []) (multiple (F.int (pos 1)) (search reads depth 40 fits 50000) (search reads depth 40 fits 50000) (search reads depth 40 fits 50000) (ap (λ (w : Pair A). w.x) at_a) (multiple (F.neg a.x) (search reads depth 40 fits 50000) (search reads depth 40 fits 50000) (search reads depth 40 fits 50000) c_same (multiple (F.neg a.y) (search reads depth 40 fits 50000) (search reads depth 40 fits 50000) (search reads depth 40 fits 50000) s_same no_equation))) (search reads depth 40 fits 50000) (search reads depth 40 fits 50000) tt in
        let r_same : r ≡ o = ring_from F.ring (c ∷ s ∷ p ∷ r ∷ d ∷ z ∷ q ∷ o ∷ a.x ∷ a.y ∷ b.x ∷ b.y ∷ []) (multiple (F.int (pos 1)) (search reads depth 40 fits 50000) (search reads depth 40 fits 50000) (search reads depth 40 fits 50000) (ap (λ (w : Pair A). w.y) at_a) (multiple (F.neg a.x) (search reads depth 40 fits 50000) (search reads depth 40 fits 50000) (search reads depth 40 fits 50000) s_same (multiple a.y (search reads depth 40 fits 50000) (search reads depth 40 fits 50000) (search reads depth 40 fits 50000) c_same no_equation))) (search reads depth 40 fits 50000) (search reads depth 40 fits 50000) tt in
        motion_is _ _ c_same s_same p_same r_same refl

  agree_at : (t v : Bool) (e : t ≡ v) (c s p r d z q o : A) (a b : Pair A) → ¬ (a ≡ b)
      → let m : Motion A = record { c = c; s = s; p = p; r = r; turned = t } in let n : Motion A = record { c = d; s = z; p = q; r = o; turned = v } in
      place F m a ≡ place F n a → place F m b ≡ place F n b → m ≡ n
  agree_at false false e c s p r d z q o a b differ at_a at_b = agree_false c s p r d z q o a b differ at_a at_b
  agree_at true true e c s p r d z q o a b differ at_a at_b = agree_true c s p r d z q o a b differ at_a at_b
  agree_at false true e c s p r d z q o a b differ at_a at_b = absurd (cc)
  agree_at true false e c s p r d z q o a b differ at_a at_b = absurd (cc)

  -- two maps that both turn, or both don't, and agree on two different points are one
  pub agree_on_two : (m n : Motion A) (a b : Pair A) → ¬ (a ≡ b) → m.turned ≡ n.turned → place F m a ≡ place F n a → place F m b ≡ place F n b → m ≡ n
  agree_on_two m n a b differ e at_a at_b = agree_at m.turned n.turned e m.c m.s m.p m.r n.c n.s n.p n.r a b differ at_a at_b

  -- ---- laws of composition

  zero_differs_from_one : ¬ (F.int (pos 0) ≡ F.int (pos 1))
  zero_differs_from_one h =
      let zero : F.sign (F.int (pos 0)) ≡ Equal = F.sign_int (pos 0) in
      let one : F.sign (F.int (pos 1)) ≡ Greater = F.sign_int (pos 1) in
      let same : F.sign (F.int (pos 0)) ≡ F.sign (F.int (pos 1)) = ap F.sign h in
      cc

  pub agree_everywhere : (m n : Motion A) → m.turned ≡ n.turned → ((a : Pair A) → place F m a ≡ place F n a) → m ≡ n
  agree_everywhere m n e same =
      agree_on_two m n (record { x = F.int (pos 0); y = F.int (pos 0) }) (record { x = F.int (pos 1); y = F.int (pos 0) }) (λ h. zero_differs_from_one (ap (λ (w : Pair A). w.x) h)) e (same _) (same _)

  turns_twice : (t u v : Bool) → (if (if t then not u else u) then not v else v) ≡ (if t then not (if u then not v else v) else (if u then not v else v))
  turns_twice false u v = refl
  turns_twice true false v = refl
  turns_twice true true false = refl
  turns_twice true true true = refl

  pub composed-assoc : (m n k : Motion A) → composed F (composed F m n) k ≡ composed F m (composed F n k)
  composed-assoc m n k =
      agree_everywhere _ _ (turns_twice m.turned n.turned k.turned)
      (λ a. place-composed (composed F m n) k a ∙ place-composed m n (place F k a) ∙ ap (place F m) (sym (place-composed n k a)) ∙ sym (place-composed m (composed F n k) a))

  pub identity-composed : (m : Motion A) → composed F (identity F) m ≡ m
  identity-composed m = agree_everywhere _ _ refl (λ a. place-composed (identity F) m a ∙ place-identity (place F m a))

  turns_once : (t : Bool) → (if t then true else false) ≡ t
  turns_once false = refl
  turns_once true = refl

  pub composed-identity : (m : Motion A) → composed F m (identity F) ≡ m
  composed-identity m = agree_everywhere _ _ (turns_once m.turned) (λ a. place-composed m (identity F) a ∙ ap (place F m) (place-identity a))

  -- ---- reflections

  pub place-mirror : (c s : A) (a : Pair A) → place F (mirror F c s a) a ≡ a
  place-mirror c s a =
      pair_is _ _
      (ring F.ring (c ∷ s ∷ a.x ∷ a.y ∷ []) (search reads depth 40 fits 50000) (search reads depth 40 fits 50000) tt)
      (ring F.ring (c ∷ s ∷ a.x ∷ a.y ∷ []) (search reads depth 40 fits 50000) (search reads depth 40 fits 50000) tt)

  -- the turn of a reflection, times the square of the length
  module _ (a b : Pair A) (differ : ¬ (a ≡ b)) where
    first : F.mul (reflection F a b).c (norm F (F.sub b.x a.x) (F.sub b.y a.y)) ≡ F.sub (F.mul (F.sub b.x a.x) (F.sub b.x a.x)) (F.mul (F.sub b.y a.y) (F.sub b.y a.y))
    first = F.div_mul _ _ (above_zero _ (norm_positive a b differ))

    second : F.mul (reflection F a b).s (norm F (F.sub b.x a.x) (F.sub b.y a.y)) ≡ F.add (F.mul (F.sub b.x a.x) (F.sub b.y a.y)) (F.mul (F.sub b.x a.x) (F.sub b.y a.y))
    second = F.div_mul _ _ (above_zero _ (norm_positive a b differ))

    pub place-reflection_first : place F (reflection F a b) a ≡ a
    place-reflection_first = place-mirror (reflection F a b).c (reflection F a b).s a

    pub place-reflection_second : place F (reflection F a b) b ≡ b
    place-reflection_second =
        pair_is _ _
        (ring_from_multiple F.ring ((reflection F a b).c ∷ (reflection F a b).s ∷ a.x ∷ a.y ∷ b.x ∷ b.y ∷ []) (multiple (F.sub b.x a.x) (search reads depth 40 fits 50000) (search reads depth 40 fits 50000) (search reads depth 40 fits 50000) first (multiple (F.sub b.y a.y) (search reads depth 40 fits 50000) (search reads depth 40 fits 50000) (search reads depth 40 fits 50000) second no_equation)) (search reads depth 40 fits 50000) (above_zero _ (norm_positive a b differ)) (search reads depth 40 fits 50000) (search reads depth 40 fits 50000) tt)
        (ring_from_multiple F.ring ((reflection F a b).c ∷ (reflection F a b).s ∷ a.x ∷ a.y ∷ b.x ∷ b.y ∷ []) (multiple (F.sub b.x a.x) (search reads depth 40 fits 50000) (search reads depth 40 fits 50000) (search reads depth 40 fits 50000) second (multiple (F.neg (F.sub b.y a.y)) (search reads depth 40 fits 50000) (search reads depth 40 fits 50000) (search reads depth 40 fits 50000) first no_equation)) (search reads depth 40 fits 50000) (above_zero _ (norm_positive a b differ)) (search reads depth 40 fits 50000) (search reads depth 40 fits 50000) tt)

    -- twice the same reflection leaves each point where it is
    pub reflection-twice : composed F (reflection F a b) (reflection F a b) ≡ identity F
    reflection-twice =
        agree_on_two _ _ a b differ refl
        (place-composed (reflection F a b) (reflection F a b) a ∙ ap (place F (reflection F a b)) place-reflection_first ∙ place-reflection_first ∙ sym (place-identity a))
        (place-composed (reflection F a b) (reflection F a b) b ∙ ap (place F (reflection F a b)) place-reflection_second ∙ place-reflection_second ∙ sym (place-identity b))

    square_positive : ¬ (F.sign (F.mul (norm F (F.sub b.x a.x) (F.sub b.y a.y)) (norm F (F.sub b.x a.x) (F.sub b.y a.y))) ≡ Equal)
    square_positive z =
        let p : F.sign (norm F (F.sub b.x a.x) (F.sub b.y a.y)) ≡ Greater = norm_positive a b differ in
        let q : F.sign (F.mul (norm F (F.sub b.x a.x) (F.sub b.y a.y)) (norm F (F.sub b.x a.x) (F.sub b.y a.y))) ≡ product_sign (F.sign (norm F (F.sub b.x a.x) (F.sub b.y a.y))) (F.sign (norm F (F.sub b.x a.x) (F.sub b.y a.y))) = F.sign_mul (norm F (F.sub b.x a.x) (F.sub b.y a.y)) (norm F (F.sub b.x a.x) (F.sub b.y a.y)) in
        let q2 : F.sign (F.mul (norm F (F.sub b.x a.x) (F.sub b.y a.y)) (norm F (F.sub b.x a.x) (F.sub b.y a.y))) ≡ Greater = q ∙ ap (λ (o : Ordering). product_sign o o) p in
        cc

    pub reflection-isometry : IsIsometry F (reflection F a b)
    reflection-isometry =
        ring_from_multiple F.ring ((reflection F a b).c ∷ (reflection F a b).s ∷ a.x ∷ a.y ∷ b.x ∷ b.y ∷ []) (multiple (F.add (F.mul (reflection F a b).c (norm F (F.sub b.x a.x) (F.sub b.y a.y))) (F.sub (F.mul (F.sub b.x a.x) (F.sub b.x a.x)) (F.mul (F.sub b.y a.y) (F.sub b.y a.y)))) (search reads depth 40 fits 50000) (search reads depth 40 fits 50000) (search reads depth 40 fits 50000) first (multiple (F.add (F.mul (reflection F a b).s (norm F (F.sub b.x a.x) (F.sub b.y a.y))) (F.add (F.mul (F.sub b.x a.x) (F.sub b.y a.y)) (F.mul (F.sub b.x a.x) (F.sub b.y a.y)))) (search reads depth 40 fits 50000) (search reads depth 40 fits 50000) (search reads depth 40 fits 50000) second no_equation)) (search reads depth 40 fits 50000) square_positive (search reads depth 40 fits 50000) (search reads depth 40 fits 50000) tt

  pub identity-isometry : IsIsometry F (identity F)
  identity-isometry = ring F.ring [] (search reads depth 40 fits 50000) (search reads depth 40 fits 50000) tt

  -- what a map makes of lengths: isometries follow each other
  composed_isometry_at : (t : Bool) (c s d z : A) → F.add (F.mul c c) (F.mul s s) ≡ F.int (pos 1) → F.add (F.mul d d) (F.mul z z) ≡ F.int (pos 1)
      → let way : Pair A = turned_by F t c s (record { x = d; y = z }) in F.add (F.mul way.x way.x) (F.mul way.y way.y) ≡ F.int (pos 1)
  composed_isometry_at false c s d z e f =
      ring_from F.ring (c ∷ s ∷ d ∷ z ∷ []) (multiple (F.add (F.mul d d) (F.mul z z)) (search reads depth 40 fits 50000) (search reads depth 40 fits 50000) (search reads depth 40 fits 50000) e (multiple (F.int (pos 1)) (search reads depth 40 fits 50000) (search reads depth 40 fits 50000) (search reads depth 40 fits 50000) f no_equation)) (search reads depth 40 fits 50000) (search reads depth 40 fits 50000) tt
  composed_isometry_at true c s d z e f =
      ring_from F.ring (c ∷ s ∷ d ∷ z ∷ []) (multiple (F.add (F.mul d d) (F.mul z z)) (search reads depth 40 fits 50000) (search reads depth 40 fits 50000) (search reads depth 40 fits 50000) e (multiple (F.int (pos 1)) (search reads depth 40 fits 50000) (search reads depth 40 fits 50000) (search reads depth 40 fits 50000) f no_equation)) (search reads depth 40 fits 50000) (search reads depth 40 fits 50000) tt

  pub composed-isometry : (m n : Motion A) → IsIsometry F m → IsIsometry F n → IsIsometry F (composed F m n)
  composed-isometry m n e f = composed_isometry_at m.turned m.c m.s n.c n.s e f

  -- ---- what isometries keep

  distance_at : (t : Bool) (c s p r : A) (a b : Pair A) → F.add (F.mul c c) (F.mul s s) ≡ F.int (pos 1)
      → let m : Motion A = record { c = c; s = s; p = p; r = r; turned = t } in
      squared_distance F (place F m a) (place F m b) ≡ squared_distance F a b
  distance_at false c s p r a b e = ring_from F.ring (c ∷ s ∷ p ∷ r ∷ a.x ∷ a.y ∷ b.x ∷ b.y ∷ []) (multiple (squared_distance F a b) (search reads depth 40 fits 50000) (search reads depth 40 fits 50000) (search reads depth 40 fits 50000) e no_equation) (search reads depth 40 fits 50000) (search reads depth 40 fits 50000) tt
  distance_at true c s p r a b e = ring_from F.ring (c ∷ s ∷ p ∷ r ∷ a.x ∷ a.y ∷ b.x ∷ b.y ∷ []) (multiple (squared_distance F a b) (search reads depth 40 fits 50000) (search reads depth 40 fits 50000) (search reads depth 40 fits 50000) e no_equation) (search reads depth 40 fits 50000) (search reads depth 40 fits 50000) tt

  pub keeps-distance : (m : Motion A) (a b : Pair A) → IsIsometry F m → squared_distance F (place F m a) (place F m b) ≡ squared_distance F a b
  keeps-distance m a b e = distance_at m.turned m.c m.s m.p m.r a b e

  area_at : (t : Bool) (c s p r : A) (a b d : Pair A) → F.add (F.mul c c) (F.mul s s) ≡ F.int (pos 1)
      → let m : Motion A = record { c = c; s = s; p = p; r = r; turned = t } in
      doubled_area F (place F m a) (place F m b) (place F m d) ≡ F.mul (handedness F m) (doubled_area F a b d)
  area_at false c s p r a b d e = ring_from F.ring (c ∷ s ∷ p ∷ r ∷ a.x ∷ a.y ∷ b.x ∷ b.y ∷ d.x ∷ d.y ∷ []) (multiple (doubled_area F a b d) (search reads depth 40 fits 50000) (search reads depth 40 fits 50000) (search reads depth 40 fits 50000) e no_equation) (search reads depth 40 fits 50000) (search reads depth 40 fits 50000) tt
  area_at true c s p r a b d e = ring_from F.ring (c ∷ s ∷ p ∷ r ∷ a.x ∷ a.y ∷ b.x ∷ b.y ∷ d.x ∷ d.y ∷ []) (multiple (F.neg (doubled_area F a b d)) (search reads depth 40 fits 50000) (search reads depth 40 fits 50000) (search reads depth 40 fits 50000) e no_equation) (search reads depth 40 fits 50000) (search reads depth 40 fits 50000) tt

  pub keeps-area : (m : Motion A) (a b d : Pair A) → IsIsometry F m
      → doubled_area F (place F m a) (place F m b) (place F m d) ≡ F.mul (handedness F m) (doubled_area F a b d)
  keeps-area m a b d e = area_at m.turned m.c m.s m.p m.r a b d e

  handed_at : (t u : Bool) → let sign : Bool → A = (λ v. if v then F.int (negsuc 0) else F.int (pos 1)) in
      sign (if t then not u else u) ≡ F.mul (sign t) (sign u)
  handed_at false false = ring F.ring [] (search reads depth 40 fits 50000) (search reads depth 40 fits 50000) tt
  handed_at false true = ring F.ring [] (search reads depth 40 fits 50000) (search reads depth 40 fits 50000) tt
  handed_at true false = ring F.ring [] (search reads depth 40 fits 50000) (search reads depth 40 fits 50000) tt
  handed_at true true = ring F.ring [] (search reads depth 40 fits 50000) (search reads depth 40 fits 50000) tt

  pub handed-composed : (m n : Motion A) → handedness F (composed F m n) ≡ F.mul (handedness F m) (handedness F n)
  handed-composed m n = handed_at m.turned n.turned

  -- ---- the line of a reflection, and the areas that it turns over

  module _ (a b : Pair A) (differ : ¬ (a ≡ b)) where
    pub fixes-line : (p : Pair A) → IsOnLine F a b p → place F (reflection F a b) p ≡ p
    fixes-line p on =
        let zero : doubled_area F a b p ≡ F.int (pos 0) = F.sign_zero (doubled_area F a b p) on in
        pair_is _ _
        (ring_from_multiple F.ring ((reflection F a b).c ∷ (reflection F a b).s ∷ a.x ∷ a.y ∷ b.x ∷ b.y ∷ p.x ∷ p.y ∷ []) (multiple (F.sub p.x a.x) (search reads depth 40 fits 50000) (search reads depth 40 fits 50000) (search reads depth 40 fits 50000) (first a b differ) (multiple (F.sub p.y a.y) (search reads depth 40 fits 50000) (search reads depth 40 fits 50000) (search reads depth 40 fits 50000) (second a b differ) (multiple (F.add (F.sub b.y a.y) (F.sub b.y a.y)) (search reads depth 40 fits 50000) (search reads depth 40 fits 50000) (search reads depth 40 fits 50000) zero no_equation))) (search reads depth 40 fits 50000) (above_zero _ (norm_positive a b differ)) (search reads depth 40 fits 50000) (search reads depth 40 fits 50000) tt)
        (ring_from_multiple F.ring ((reflection F a b).c ∷ (reflection F a b).s ∷ a.x ∷ a.y ∷ b.x ∷ b.y ∷ p.x ∷ p.y ∷ []) (multiple (F.sub p.x a.x) (search reads depth 40 fits 50000) (search reads depth 40 fits 50000) (search reads depth 40 fits 50000) (second a b differ) (multiple (F.neg (F.sub p.y a.y)) (search reads depth 40 fits 50000) (search reads depth 40 fits 50000) (search reads depth 40 fits 50000) (first a b differ) (multiple (F.neg (F.add (F.sub b.x a.x) (F.sub b.x a.x))) (search reads depth 40 fits 50000) (search reads depth 40 fits 50000) (search reads depth 40 fits 50000) zero no_equation))) (search reads depth 40 fits 50000) (above_zero _ (norm_positive a b differ)) (search reads depth 40 fits 50000) (search reads depth 40 fits 50000) tt)

    pub turns-areas : (p q r : Pair A)
        → doubled_area F (place F (reflection F a b) p) (place F (reflection F a b) q) (place F (reflection F a b) r) ≡ F.neg (doubled_area F p q r)
    turns-areas p q r = keeps-area (reflection F a b) p q r (reflection-isometry a b differ) ∙ opposite (doubled_area F p q r)
      where
        opposite : (x : A) → F.mul (F.int (negsuc 0)) x ≡ F.neg x
        opposite x = ring F.ring (x ∷ []) (search reads depth 40 fits 50000) (search reads depth 40 fits 50000) tt
