-- Round a vertex: from the left of a piece that leads to it to the left of the next one.
use Prim.Native.Nat.{ℕ}
use mathlib.Core.Path.{◌≡◌, refl, sym, ap, ◌∙◌, subst}
use mathlib.Core.List.{List, [], ◌∷◌}
use mathlib.Core.Logic.{◌⊎◌, inl, inr}
use lib.IntN.{pos}
use Rattle.plane.proofs.Nearby.{along}
use Rattle.plane.specs.Lines.{value, determinant, IsAbove, IsNotAbove, line}
use Rattle.plane.proofs.Lines.{at_first, at_second, swapped, swapped_last}
use Rattle.std.specs.Prelude.{IsTrue}
use Rattle.std.specs.declared.cmp.Ordering.{Ordering}
use Rattle.std.specs.declared.cmp.Ordering.TheVariants.{Less, Equal, Greater}
use Rattle.std.specs.Ordering.{is_ge, is_le, ordering_reverse}
use Rattle.algebra.specs.OrderedRing.{OrderedRing}
use Rattle.plane.specs.declared.point.Point.{Point}
use Rattle.algebra.proofs.Solvers.{ring, reads, sign_from, known, no_sign, given, sum, product, positive, negative, not_negative, not_positive, any_sign, at_zero}
use Rattle.plane.specs.Points.{IsPoint}
use Rattle.plane.specs.Segments.{IsOn}
use Rattle.regions.proofs.Drawings.{Piece, piece, Among, IsDirected, OnPiece}
use Rattle.regions.proofs.Regions.{LeftAt}
use Rattle.plane.proofs.Signs.{greater_ge, less_le, equal_le, equal_ge}
use Rattle.plane.specs.declared.point.Line.{Line}
use Rattle.plane.proofs.Nearby.{Closer, closer_point}
use Rattle.plane.proofs.OnSegments.{not_above_on, above_and_not, sign_on}
use Rattle.regions.proofs.Neighbourhoods.{shrink}

module _ {A : Type 0} (K : OrderedRing A) where
  pub only_far : (s t x : A) → K.add (K.mul s (K.int (pos 0))) (K.mul t x) ≡ K.mul t x
  only_far s t x = ring K (s ∷ t ∷ x ∷ []) (search reads depth 40 fits 50000) (search reads depth 40 fits 50000) tt

  far_sign : (s t x y : A) → IsTrue (is_ge (K.sign t)) → K.sign x ≡ Equal → K.sign (K.add (K.mul s x) (K.mul t y)) ≡ Less → K.sign y ≡ Less
  far_sign s t x y ht hx h = by_sign (K.sign y) refl
    where
      not_less : IsTrue (is_ge (K.sign y)) → IsTrue (is_ge (K.sign (K.add (K.mul s x) (K.mul t y))))
      not_less g =
          sign_from K (s ∷ t ∷ x ∷ y ∷ []) (known at_zero (search reads depth 40 fits 50000) hx (known not_negative (search reads depth 40 fits 50000) ht (known not_negative (search reads depth 40 fits 50000) g (known any_sign {a = s} (search reads depth 40 fits 50000) tt no_sign))))
          not_negative (search reads depth 40 fits 50000) (sum (product (given 3) (given 0)) (product (given 1) (given 2))) tt tt

      by_sign : (r : Ordering) → K.sign y ≡ r → K.sign y ≡ Less
      by_sign Less e = e
      by_sign Equal e = let g : IsTrue (is_ge (K.sign (K.add (K.mul s x) (K.mul t y)))) = not_less (equal_ge e) in absurd (cc)
      by_sign Greater e = let g : IsTrue (is_ge (K.sign (K.add (K.mul s x) (K.mul t y)))) = not_less (greater_ge e) in absurd (cc)

  far_sign_greater : (s t x y : A) → IsTrue (is_ge (K.sign t)) → K.sign x ≡ Equal → K.sign (K.add (K.mul s x) (K.mul t y)) ≡ Greater → K.sign y ≡ Greater
  far_sign_greater s t x y ht hx h = by_sign (K.sign y) refl
    where
      not_greater : IsTrue (is_le (K.sign y)) → IsTrue (is_le (K.sign (K.add (K.mul s x) (K.mul t y))))
      not_greater g =
          sign_from K (s ∷ t ∷ x ∷ y ∷ []) (known at_zero (search reads depth 40 fits 50000) hx (known not_negative (search reads depth 40 fits 50000) ht (known not_positive (search reads depth 40 fits 50000) g (known any_sign {a = s} (search reads depth 40 fits 50000) tt no_sign))))
          not_positive (search reads depth 40 fits 50000) (sum (product (given 3) (given 0)) (product (given 1) (given 2))) tt tt

      by_sign : (r : Ordering) → K.sign y ≡ r → K.sign y ≡ Greater
      by_sign Greater e = e
      by_sign Equal e = let g : IsTrue (is_le (K.sign (K.add (K.mul s x) (K.mul t y)))) = not_greater (equal_le e) in absurd (cc)
      by_sign Less e = let g : IsTrue (is_le (K.sign (K.add (K.mul s x) (K.mul t y)))) = not_greater (less_le e) in absurd (cc)

  -- a point of the segment with a share of its first end
  pub greater_on : (L : Line A) {p q x : Point A} (on : IsOn K p q x) → K.sign on.from_share ≡ Greater → K.sign (value K.ops L p) ≡ Greater → IsTrue (is_ge (K.sign (value K.ops L q))) → K.sign (value K.ops L x) ≡ Greater
  greater_on L {p} {q} {x} on h hp hq =
      sym (sign_on K L on)
      ∙ sign_from K (on.from_share ∷ on.to_share ∷ value K.ops L p ∷ value K.ops L q ∷ []) (known positive (search reads depth 40 fits 50000) h (known not_negative (search reads depth 40 fits 50000) on.to_not_negative (known positive (search reads depth 40 fits 50000) hp (known not_negative (search reads depth 40 fits 50000) hq no_sign))))
      positive (search reads depth 40 fits 50000) (sum (product (given 0) (given 2)) (product (given 1) (given 3))) tt tt

  pub less_on : (L : Line A) {p q x : Point A} (on : IsOn K p q x) → K.sign on.from_share ≡ Greater → K.sign (value K.ops L p) ≡ Less → IsTrue (is_le (K.sign (value K.ops L q))) → K.sign (value K.ops L x) ≡ Less
  less_on L {p} {q} {x} on h hp hq =
      sym (sign_on K L on)
      ∙ sign_from K (on.from_share ∷ on.to_share ∷ value K.ops L p ∷ value K.ops L q ∷ []) (known positive (search reads depth 40 fits 50000) h (known not_negative (search reads depth 40 fits 50000) on.to_not_negative (known negative (search reads depth 40 fits 50000) hp (known not_positive (search reads depth 40 fits 50000) hq no_sign))))
      negative (search reads depth 40 fits 50000) (sum (product (given 0) (given 2)) (product (given 1) (given 3))) tt tt

  module _ (place : ℕ → Point A) (ps : List Piece) where
    -- the piece has an end at the vertex, or is parted from it
    pub record Star (v : ℕ) (f : Piece) : Type 0 where
      pub by : Line A
      pub at_vertex : IsAbove K by (place v)
      pub either : ((y : ℕ) × IsDirected ps (piece v y) × ((x : Point A) → OnPiece K place f x → IsOn K (place v) (place y) x))
          ⊎ (IsNotAbove K by (place f.tail) × IsNotAbove K by (place f.head))

    abbrev pub Stars : ℕ → Type 0
    Stars v = (f : Piece) → Among ps f → Star v f

    -- m lies on the way from the vertex to t, so near that only pieces at the vertex meet it
    pub record NearBy (v : ℕ) (stars : Stars v) (t m : Point A) : Type 0 where
      pub closer : Closer K (place v) t m
      pub above : (f : Piece) (i : Among ps f) → IsAbove K (stars f i).by m

    pub near_by : (v : ℕ) (stars : Stars v) (t : Point A) → (m : Point A) × NearBy v stars t m
    near_by v stars t =
        let r : (m : Point A) × Closer K (place v) t m × ((f : Piece) (i : Among ps f) → IsAbove K (stars f i).by m) = shrink K (place v) t ps (λ f i. (stars f i).by) (λ f i. (stars f i).at_vertex) in
        (r.0, record { closer = r.1; above = r.2 })

    module _ (v : ℕ) (stars : Stars v) {a b c : Point A}
        (ac : K.sign (determinant K.ops (place v) a c) ≡ Less) (bc : K.sign (determinant K.ops (place v) b c) ≡ Greater) (ab : IsTrue (is_le (K.sign (determinant K.ops (place v) a b))))
        (empty : (y : ℕ) → IsDirected ps (piece v y) → K.sign (determinant K.ops (place v) a (place y)) ≡ Less → K.sign (determinant K.ops (place v) b (place y)) ≡ Greater → ⊥) where
      in_sector : (x : Point A) → K.sign (determinant K.ops (place v) a x) ≡ Less → K.sign (determinant K.ops (place v) b x) ≡ Greater
          → (f : Piece) (i : Among ps f) → IsAbove K (stars f i).by x → ¬ OnPiece K place f x
      in_sector x ax bx f i above_x on_f = elim (stars f i).either [
        | inr g ↦ above_and_not K (stars f i).by above_x (not_above_on K (stars f i).by on_f g.0 g.1)
        | inl g ↦
            let on : IsOn K (place v) (place g.0) x = g.2 x on_f in
            empty g.0 g.1
            (far_sign on.from_share on.to_share (determinant K.ops (place v) a (place v)) (determinant K.ops (place v) a (place g.0)) on.to_not_negative (at_first K (place v) a) (sign_on K (line K.ops (place v) a) on ∙ ax))
            (far_sign_greater on.from_share on.to_share (determinant K.ops (place v) b (place v)) (determinant K.ops (place v) b (place g.0)) on.to_not_negative (at_first K (place v) b) (sign_on K (line K.ops (place v) b) on ∙ bx))
      ]

      -- from the left of the ray towards the vertex to the left of the ray from it, where the sector between them, of at most half a turn, holds no piece
      pub turn : (hv : IsPoint K (place v)) (hc : IsPoint K c) {m n : Point A} → NearBy v stars a m → NearBy v stars b n
          → (p : Point A) × LeftAt K place ps a (place v) m p × LeftAt K place ps (place v) b n p
      turn hv hc {m} {n} near_m near_n =
          let r : (p : Point A) × NearBy v stars c p = near_by v stars c in
          let p : Point A = r.0 in
          let ap_less : K.sign (determinant K.ops (place v) a p) ≡ Less = along K (line K.ops (place v) a) (at_first K (place v) a) r.1.closer ∙ ac in
          let bp_greater : K.sign (determinant K.ops (place v) b p) ≡ Greater = along K (line K.ops (place v) b) (at_first K (place v) b) r.1.closer ∙ bc in
          let am : K.sign (determinant K.ops (place v) a m) ≡ Equal = along K (line K.ops (place v) a) (at_first K (place v) a) near_m.closer ∙ at_second K (place v) a in
          let bm : IsTrue (is_ge (K.sign (determinant K.ops (place v) b m)))
          = subst (λ s. IsTrue (is_ge s)) (sym (along K (line K.ops (place v) b) (at_first K (place v) b) near_m.closer))
          (reversed_le_of (K.sign (determinant K.ops (place v) b a)) (subst (λ s. IsTrue (is_le s)) (swapped_last K (place v) b a) ab)) in
          let an : IsTrue (is_le (K.sign (determinant K.ops (place v) a n))) = subst (λ s. IsTrue (is_le s)) (sym (along K (line K.ops (place v) a) (at_first K (place v) a) near_n.closer)) ab in
          let bn : K.sign (determinant K.ops (place v) b n) ≡ Equal = along K (line K.ops (place v) b) (at_first K (place v) b) near_n.closer ∙ at_second K (place v) b in (
            p,
            record {
              point = closer_point K r.1.closer hv hc;
              left = swapped K (place v) a p ∙ ap ordering_reverse ap_less;
              clear = λ f i x on h. in_sector x (less_on (line K.ops (place v) a) on h ap_less (equal_le am)) (greater_on (line K.ops (place v) b) on h bp_greater bm) f i
                  (greater_on (stars f i).by on h (r.1.above f i) (greater_ge (near_m.above f i)));
            },
            record {
              point = closer_point K r.1.closer hv hc;
              left = bp_greater;
              clear = λ f i x on h. in_sector x (less_on (line K.ops (place v) a) on h ap_less an) (greater_on (line K.ops (place v) b) on h bp_greater (equal_ge bn)) f i
                  (greater_on (stars f i).by on h (r.1.above f i) (greater_ge (near_n.above f i)));
            },
          )
        where
          reversed_le_of : (s : Ordering) → IsTrue (is_le (ordering_reverse s)) → IsTrue (is_ge s)
          reversed_le_of Less h = h
          reversed_le_of Equal h = refl
          reversed_le_of Greater h = refl
