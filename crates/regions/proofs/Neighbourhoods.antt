-- Near a point of a piece: what lies left of the piece there is one region.
use Prim.Native.Nat.{ℕ}
use mathlib.Core.Path.{◌≡◌, refl, sym, ap, ◌∙◌, path_j}
use mathlib.Core.List.{List, [], ◌∷◌}
use mathlib.Core.Logic.{◌⊎◌, inl, inr}
use lib.IntN.{pos}
use Rattle.plane.proofs.Nearby.{closer_point}
use Rattle.plane.specs.Lines.{value, determinant, IsAbove, IsNotAbove, line}
use Rattle.plane.proofs.Lines.{value_combination, same_vector}
use Rattle.std.specs.Prelude.{IsTrue}
use Rattle.std.specs.declared.cmp.Ordering.TheVariants.{Greater}
use Rattle.std.specs.Ordering.{is_ge}
use Rattle.algebra.specs.OrderedRing.{OrderedRing}
use Rattle.plane.specs.declared.point.Point.{Point}
use Rattle.algebra.proofs.Solvers.{ring, reads, sign_from, known, no_sign, given, sum, product, positive, not_negative, at_zero}
use Rattle.plane.specs.Points.{combination, IsPoint}
use Rattle.plane.specs.Segments.{IsOn}
use Rattle.regions.proofs.Drawings.{Piece, Among}
use Rattle.regions.proofs.Regions.{IsClear, LeftAt, OneRegion, straight, bent}
use Rattle.plane.proofs.Signs.{greater_ge}
use Rattle.plane.proofs.OnSegments.{meet_turned, not_above_on, some_share, above_and_not, sign_on}
use Rattle.plane.specs.declared.point.Line.{Line}
use Rattle.plane.proofs.Nearby.{Closer, closer_still, above_closer, halfway, near}
use Rattle.plane.proofs.Separation.{parted_apart}

module _ {A : Type 0} (K : OrderedRing A) where
  -- some point between m and a where all these functionals are above zero, if they are so at m
  pub shrink : (m a : Point A) (fs : List Piece) (L : (f : Piece) → Among fs f → Line A) → ((f : Piece) (i : Among fs f) → IsAbove K (L f i) m)
      → (b : Point A) × Closer K m a b × ((f : Piece) (i : Among fs f) → IsAbove K (L f i) b)
  shrink m a [] L h = (combination K.ops (K.int (pos 1)) m (K.int (pos 1)) a, halfway K m a, λ f i. absurd i)
  shrink m a (g ∷ fs) L h =
      let r : (b : Point A) × Closer K m a b × ((f : Piece) (i : Among fs f) → IsAbove K (L f (inr i)) b) = shrink m a fs (λ f i. L f (inr i)) (λ f i. h f (inr i)) in
      let n : (b : Point A) × Closer K m r.0 b × IsAbove K (L g (inl refl)) b = near K (L g (inl refl)) m r.0 (h g (inl refl)) in (
        n.0,
        closer_still K r.1 n.1,
        λ f. elim [
          | inl e ↦ path_j (λ f e. IsAbove K (L f (inl e)) n.0) n.2 e
          | inr i ↦ above_closer K (L f (inr i)) n.1 (h f (inr i)) (r.2 f i)
        ],
      )

  module _ (place : ℕ → Point A) where
    -- f lies on the line ab, or is parted from the segment from m to n
    pub record Guard (a b m n : Point A) (f : Piece) : Type 0 where
      pub by : Line A
      pub first_above : IsAbove K by m
      pub second_above : IsAbove K by n
      pub either : (IsNotAbove K (line K.ops a b) (place f.tail) × IsNotAbove K (line K.ops a b) (place f.head)) ⊎ (IsNotAbove K by (place f.tail) × IsNotAbove K by (place f.head))

    sum_moved : (s t u v m p : A) → K.add (K.mul s p) (K.mul t (K.add (K.mul u m) (K.mul v p))) ≡ K.add (K.mul (K.add s (K.mul t v)) p) (K.mul (K.mul t u) m)
    sum_moved s t u v m p = ring K (s ∷ t ∷ u ∷ v ∷ m ∷ p ∷ []) (search reads depth 40 fits 50000) (search reads depth 40 fits 50000) tt

    share_moved : (s t v : A) → IsTrue (is_ge (K.sign s)) → IsTrue (is_ge (K.sign t)) → K.sign v ≡ Greater → (K.sign s ≡ Greater) ⊎ (K.sign t ≡ Greater)
        → K.sign (K.add s (K.mul t v)) ≡ Greater
    share_moved s t v hs ht hv (inl h) =
        sign_from K (s ∷ t ∷ v ∷ []) (known positive (search reads depth 40 fits 50000) h (known not_negative (search reads depth 40 fits 50000) ht (known positive (search reads depth 40 fits 50000) hv no_sign))) positive (search reads depth 40 fits 50000) (sum (given 0) (product (given 1) (given 2))) tt tt
    share_moved s t v hs ht hv (inr h) =
        sign_from K (s ∷ t ∷ v ∷ []) (known not_negative (search reads depth 40 fits 50000) hs (known positive (search reads depth 40 fits 50000) h (known positive (search reads depth 40 fits 50000) hv no_sign))) positive (search reads depth 40 fits 50000) (sum (given 0) (product (given 1) (given 2))) tt tt

    product_ge : (s t : A) → IsTrue (is_ge (K.sign s)) → K.sign t ≡ Greater → IsTrue (is_ge (K.sign (K.mul s t)))
    product_ge s t hs ht = sign_from K (s ∷ t ∷ []) (known not_negative (search reads depth 40 fits 50000) hs (known positive (search reads depth 40 fits 50000) ht no_sign)) not_negative (search reads depth 40 fits 50000) (product (given 0) (given 1)) tt tt

    -- a point between p and c, which lies between m and p, lies between p and m and isn't m
    pub within : {m p c x : Point A} → Closer K m p c → IsPoint K x → IsOn K p c x → (on : IsOn K p m x) × (K.sign on.from_share ≡ Greater)
    within {m} {p} {c} {x} r hx on = (
      record {
        from_share = K.add on.from_share (K.mul on.to_share r.go);
        to_share = K.mul on.to_share r.stay;
        factor = on.factor;
        from_not_negative = greater_ge share;
        to_not_negative = product_ge on.to_share r.stay on.to_not_negative r.stay_gt;
        factor_positive = on.factor_positive;
        is =
            sym (sym (same_vector (sum_moved on.from_share on.to_share r.stay r.go m.x p.x) (sum_moved on.from_share on.to_share r.stay r.go m.y p.y) (sum_moved on.from_share on.to_share r.stay r.go m.w p.w))
            ∙ ap (λ q. combination K.ops on.from_share p on.to_share q) (sym r.is) ∙ (sym on.is));
      },
      share,
    )
      where
        share : K.sign (K.add on.from_share (K.mul on.to_share r.go)) ≡ Greater
        share = share_moved on.from_share on.to_share r.go on.from_not_negative on.to_not_negative r.go_gt (some_share K on hx)

    sum_shared : (s t u v m p : A) → K.add (K.mul s (K.add (K.mul u m) (K.mul v p))) (K.mul t m) ≡ K.add (K.mul (K.mul s v) p) (K.mul (K.add (K.mul s u) t) m)
    sum_shared s t u v m p = ring K (s ∷ t ∷ u ∷ v ∷ m ∷ p ∷ []) (search reads depth 40 fits 50000) (search reads depth 40 fits 50000) tt

    -- so does a point between c and m, where it isn't m
    pub beyond : {m p c x : Point A} → Closer K m p c → (on : IsOn K c m x) → K.sign on.from_share ≡ Greater → (on : IsOn K p m x) × (K.sign on.from_share ≡ Greater)
    beyond {m} {p} {c} {x} r on h = (
      record {
        from_share = K.mul on.from_share r.go;
        to_share = K.add (K.mul on.from_share r.stay) on.to_share;
        factor = on.factor;
        from_not_negative = greater_ge share;
        to_not_negative = sign_from K (on.from_share ∷ r.stay ∷ on.to_share ∷ []) (known positive (search reads depth 40 fits 50000) h (known positive (search reads depth 40 fits 50000) r.stay_gt (known not_negative (search reads depth 40 fits 50000) on.to_not_negative no_sign)))
            not_negative (search reads depth 40 fits 50000) (sum (product (given 0) (given 1)) (given 2)) tt tt;
        factor_positive = on.factor_positive;
        is =
            sym (sym (same_vector (sum_shared on.from_share on.to_share r.stay r.go m.x p.x) (sum_shared on.from_share on.to_share r.stay r.go m.y p.y) (sum_shared on.from_share on.to_share r.stay r.go m.w p.w))
            ∙ ap (λ q. combination K.ops on.from_share q on.to_share m) (sym r.is) ∙ (sym on.is));
      },
      share,
    )
      where
        share : K.sign (K.mul on.from_share r.go) ≡ Greater
        share = sign_from K (on.from_share ∷ r.go ∷ []) (known positive (search reads depth 40 fits 50000) h (known positive (search reads depth 40 fits 50000) r.go_gt no_sign)) positive (search reads depth 40 fits 50000) (product (given 0) (given 1)) tt tt

    module _ (ps : List Piece) where
      pub clear_turned : {p q : Point A} → IsClear K place ps p q → IsClear K place ps q p
      clear_turned h e i m = h e i (meet_turned K m)

      pub toward : {a b m p c : Point A} → LeftAt K place ps a b m p → Closer K m p c → IsClear K place ps p c
      toward l r e i m = let w : (on : IsOn K _ _ m.0) × (K.sign on.from_share ≡ Greater) = within r m.1 m.2 in l.clear e i m.0 w.0 w.1 m.3

      left_closer : {a b m p c : Point A} → determinant K.ops a b m ≡ K.int (pos 0) → Closer K m p c → K.sign (determinant K.ops a b p) ≡ Greater → K.sign (determinant K.ops a b c) ≡ Greater
      left_closer {a} {b} {m} {p} {c} e r h =
          ap (λ q. K.sign (determinant K.ops a b q)) r.is ∙ ap K.sign (value_combination K (line K.ops a b) r.stay r.go m p)
          ∙ sign_from K (determinant K.ops a b m ∷ determinant K.ops a b p ∷ r.stay ∷ r.go ∷ [])
          (known at_zero (search reads depth 40 fits 50000) (ap K.sign e ∙ K.sign_int (pos 0)) (known positive (search reads depth 40 fits 50000) h (known positive (search reads depth 40 fits 50000) r.stay_gt (known positive (search reads depth 40 fits 50000) r.go_gt no_sign))))
          positive (search reads depth 40 fits 50000) (sum (product (given 2) (given 0)) (product (given 3) (given 1))) tt tt

      -- what is left at two points of one line, where no other piece meets the segment between them, is one region
      pub strip : {a b m n p q : Point A} → determinant K.ops a b m ≡ K.int (pos 0) → determinant K.ops a b n ≡ K.int (pos 0) → IsPoint K m → IsPoint K n
          → ((f : Piece) → Among ps f → Guard a b m n f) → LeftAt K place ps a b m p → LeftAt K place ps a b n q → OneRegion K place ps p q
      strip {a} {b} {m} {n} {p} {q} em en hm hn guards l k =
          let r : (c : Point A) × Closer K m p c × ((f : Piece) (i : Among ps f) → IsAbove K (guards f i).by c) = shrink m p ps (λ f i. (guards f i).by) (λ f i. (guards f i).first_above) in
          let s : (c : Point A) × Closer K n q c × ((f : Piece) (i : Among ps f) → IsAbove K (guards f i).by c) = shrink n q ps (λ f i. (guards f i).by) (λ f i. (guards f i).second_above) in
          let clear : IsClear K place ps r.0 s.0 = λ f i m. elim (guards f i).either [
            | inl h ↦ parted_apart K (record { by = line K.ops a b; first_above = left_closer em r.1 l.left; second_above = left_closer en s.1 k.left; tail_not = h.0; head_not = h.1 }) m
            | inr h ↦ parted_apart K (record { by = (guards f i).by; first_above = r.2 f i; second_above = s.2 f i; tail_not = h.0; head_not = h.1 }) m
          ] in
          bent l.point (toward l r.1) (bent (closer_point K r.1 hm l.point) clear (straight (closer_point K s.1 hn k.point) k.point (clear_turned (toward k s.1))))

      -- there is a point left of the line at m, on the way to a point left of it
      pub some_left_at : {a b m t : Point A} → determinant K.ops a b m ≡ K.int (pos 0) → IsPoint K m → IsPoint K t → K.sign (determinant K.ops a b t) ≡ Greater
          → ((f : Piece) → Among ps f → Guard a b m m f) → (c : Point A) × Closer K m t c × LeftAt K place ps a b m c
      some_left_at {a} {b} {m} {t} em hm ht left guards =
          let r : (c : Point A) × Closer K m t c × ((f : Piece) (i : Among ps f) → IsAbove K (guards f i).by c) = shrink m t ps (λ f i. (guards f i).by) (λ f i. (guards f i).first_above) in (
            r.0,
            r.1,
            record {
              point = closer_point K r.1 hm ht;
              left = left_closer em r.1 left;
              clear = λ f i x on h on_f. elim (guards f i).either [
                | inl g ↦ above_and_not K (line K.ops a b) (left_on r.0 x (left_closer em r.1 left) on h) (not_above_on K (line K.ops a b) on_f g.0 g.1)
                | inr g ↦ above_and_not K (guards f i).by (above_near (guards f i).by r.0 x on h (r.2 f i) (guards f i).first_above) (not_above_on K (guards f i).by on_f g.0 g.1)
              ];
            },
          )
        where
          left_on : (c x : Point A) → K.sign (determinant K.ops a b c) ≡ Greater → (on : IsOn K c m x) → K.sign on.from_share ≡ Greater → IsAbove K (line K.ops a b) x
          left_on c x hc on h =
              sym (sign_on K (line K.ops a b) on)
              ∙ sign_from K (determinant K.ops a b m ∷ determinant K.ops a b c ∷ on.from_share ∷ on.to_share ∷ [])
              (known at_zero (search reads depth 40 fits 50000) (ap K.sign em ∙ K.sign_int (pos 0)) (known positive (search reads depth 40 fits 50000) hc (known positive (search reads depth 40 fits 50000) h (known not_negative (search reads depth 40 fits 50000) on.to_not_negative no_sign))))
              positive (search reads depth 40 fits 50000) (sum (product (given 2) (given 1)) (product (given 3) (given 0))) tt tt

          above_near : (L : Line A) (c x : Point A) (on : IsOn K c m x) → K.sign on.from_share ≡ Greater → IsAbove K L c → IsAbove K L m → IsAbove K L x
          above_near L c x on h hc hm' =
              sym (sign_on K L on)
              ∙ sign_from K (value K.ops L c ∷ value K.ops L m ∷ on.from_share ∷ on.to_share ∷ [])
              (known positive (search reads depth 40 fits 50000) hc (known positive (search reads depth 40 fits 50000) hm' (known positive (search reads depth 40 fits 50000) h (known not_negative (search reads depth 40 fits 50000) on.to_not_negative no_sign))))
              positive (search reads depth 40 fits 50000) (sum (product (given 2) (given 0)) (product (given 3) (given 1))) tt tt
