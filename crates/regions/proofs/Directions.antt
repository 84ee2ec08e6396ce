-- The directions of the pieces at a vertex: two opposite ones, and the part of a turn in which one lies.
use Prim.Native.Nat.{ℕ}
use mathlib.Core.Path.{◌≡◌, sym, ap, ◌∙◌, subst}
use mathlib.Core.List.{List, [], ◌∷◌}
use mathlib.Core.Logic.{inl, inr}
use lib.IntN.{pos, negsuc}
use Rattle.std.specs.Prelude.{IsTrue}
use Rattle.std.specs.declared.cmp.Ordering.{Ordering}
use Rattle.std.specs.declared.cmp.Ordering.TheVariants.{Less, Equal, Greater}
use Rattle.std.specs.Ordering.{is_ge, is_le, ordering_reverse, ordering_index}
use Rattle.algebra.specs.OrderedRing.{OrderedRing}
use Rattle.plane.specs.declared.point.Point.{Point}
use Rattle.plane.specs.Lines.{determinant, side, line}
use Rattle.algebra.proofs.Solvers.{ring, ring_from, multiple, no_equation, reads, sign_from, sign_from_multiple, known, no_sign, given, sum, product, negated, positive, not_negative, not_positive, at_zero, sign_neg, sign_of_multiple}
use Rattle.plane.specs.Points.{combination, multiple_of, IsPoint, IsSamePoint}
use Rattle.plane.specs.Segments.{IsOn}
use Rattle.regions.proofs.Drawings.{Piece, piece, reversed, Among, IsDirected, IsEnd, OnPiece, IsPlane}
use Rattle.plane.proofs.Lines.{same_vector}
use Rattle.plane.proofs.Signs.{greater_ge, at_most, zero_is, equal_ge}
use Rattle.plane.proofs.OnSegments.{on_turned, value_on}
use Rattle.regions.proofs.InnerPoints.{Ends, meet_in_ends, directed_ends}
use Rattle.std.proofs.Common.{eq-eqb, ne_eqb, cond}
use Rattle.regions.proofs.Walks.{part_of_turn}

pub directed_back : (ps : List Piece) (d : Piece) → IsDirected ps d → IsDirected ps (reversed d)
directed_back ps d (inl i) = inr i
directed_back ps d (inr i) = inl i

module _ {A : Type 0} (K : OrderedRing A) where
  -- ---- the parts of a turn

  module _ (place : ℕ → Point A) where
    pub part_same : (v u x : ℕ) → x ≡ u → part_of_turn K place v u x ≡ 3
    part_same v u x e = ap (λ b. cond b 3 (ordering_index (side K (place v) (place u) (place x)))) (eq-eqb x u e)

    pub part_other : (v u x : ℕ) (s : Ordering) → ¬ (x ≡ u) → side K (place v) (place u) (place x) ≡ s → part_of_turn K place v u x ≡ ordering_index s
    part_other v u x s n h = ap (λ b. cond b 3 (ordering_index (side K (place v) (place u) (place x)))) (ne_eqb x u n) ∙ ap ordering_index h

  -- ---- two pieces at a vertex

  first_share : (x y : A) → K.add (K.mul (K.int (pos 1)) x) (K.mul (K.int (pos 0)) y) ≡ K.mul (K.int (pos 1)) x
  first_share x y = ring K (x ∷ y ∷ []) (search reads depth 40 fits 50000) (search reads depth 40 fits 50000) tt

  pub on_first : (a b : Point A) → IsOn K a b a
  on_first a b = record {
    from_share = K.int (pos 1);
    to_share = K.int (pos 0);
    factor = K.int (pos 1);
    from_not_negative = greater_ge (K.sign_int (pos 1));
    to_not_negative = equal_ge (K.sign_int (pos 0));
    factor_positive = K.sign_int (pos 1);
    is = sym (same_vector (first_share a.x b.x) (first_share a.y b.y) (first_share a.w b.w));
  }

  pub on_first_share : (a b : Point A) → K.sign (on_first a b).from_share ≡ Greater
  unfolding on_first
  on_first_share a b = K.sign_int (pos 1)

  pub on_second : (a b : Point A) → IsOn K a b b
  on_second a b = on_turned K (on_first b a)

  to_second : (b f a u w v : A) → K.add (K.mul b u) (K.mul f w) ≡ K.mul a v → K.add (K.mul a v) (K.mul (K.neg b) u) ≡ K.mul f w
  to_second b f a u w v e = ring_from K (b ∷ f ∷ a ∷ u ∷ w ∷ v ∷ []) (multiple (K.int (negsuc 0)) (search reads depth 40 fits 50000) (search reads depth 40 fits 50000) (search reads depth 40 fits 50000) e no_equation) (search reads depth 40 fits 50000) (search reads depth 40 fits 50000) tt

  to_first : (b f a u w v : A) → K.add (K.mul b u) (K.mul f w) ≡ K.mul a v → K.add (K.mul (K.neg a) v) (K.mul f w) ≡ K.mul (K.neg b) u
  to_first b f a u w v e = ring_from K (b ∷ f ∷ a ∷ u ∷ w ∷ v ∷ []) (multiple (K.int (pos 1)) (search reads depth 40 fits 50000) (search reads depth 40 fits 50000) (search reads depth 40 fits 50000) e no_equation) (search reads depth 40 fits 50000) (search reads depth 40 fits 50000) tt

  difference_zero : (x y : A) → x ≡ y → K.sign (K.sub x y) ≡ Equal
  difference_zero x y e = ap K.sign (ring_from K (x ∷ y ∷ []) (multiple (K.int (pos 1)) (search reads depth 40 fits 50000) (search reads depth 40 fits 50000) (search reads depth 40 fits 50000) e no_equation) (search reads depth 40 fits 50000) (search reads depth 40 fits 50000) tt) ∙ K.sign_int (pos 0)

  first_less : (b f a u w v : A) → K.add (K.mul b u) (K.mul f w) ≡ K.mul a v → K.sign f ≡ Greater → IsTrue (is_le (K.sign a)) → K.sign u ≡ Greater → K.sign w ≡ Greater → K.sign v ≡ Greater → K.sign (K.neg b) ≡ Greater
  first_less b f a u w v e hf ha hu hw hv =
      sign_from_multiple K (b ∷ f ∷ a ∷ u ∷ w ∷ v ∷ [])
      (known at_zero (search reads depth 40 fits 50000) (difference_zero (K.add (K.mul b u) (K.mul f w)) (K.mul a v) e) (known positive (search reads depth 40 fits 50000) hf (known not_positive (search reads depth 40 fits 50000) ha (known positive (search reads depth 40 fits 50000) hw (known positive (search reads depth 40 fits 50000) hv no_sign)))))
      positive (search reads depth 40 fits 50000) hu (search reads depth 40 fits 50000) (sum (sum (negated (product (given 2) (given 4))) (product (given 1) (given 3))) (negated (given 0))) tt tt

  times_greater : (b f a u w v : A) → K.add (K.mul b u) (K.mul f w) ≡ K.mul a v → K.sign b ≡ Greater → K.sign f ≡ Greater → K.sign u ≡ Greater → K.sign w ≡ Greater → K.sign v ≡ Greater → K.sign a ≡ Greater
  times_greater b f a u w v e hb hf hu hw hv =
      sign_from_multiple K (b ∷ f ∷ a ∷ u ∷ w ∷ v ∷ [])
      (known at_zero (search reads depth 40 fits 50000) (difference_zero (K.add (K.mul b u) (K.mul f w)) (K.mul a v) e) (known positive (search reads depth 40 fits 50000) hb (known positive (search reads depth 40 fits 50000) hf (known positive (search reads depth 40 fits 50000) hu (known positive (search reads depth 40 fits 50000) hw no_sign)))))
      positive (search reads depth 40 fits 50000) hv (search reads depth 40 fits 50000) (sum (sum (product (given 1) (given 3)) (product (given 2) (given 4))) (negated (given 0))) tt tt

  reversed_ge : (a : A) → IsTrue (is_le (K.sign a)) → IsTrue (is_ge (K.sign (K.neg a)))
  reversed_ge a h = sign_from K (a ∷ []) (known not_positive (search reads depth 40 fits 50000) h no_sign) not_negative (search reads depth 40 fits 50000) (negated (given 0)) tt tt

  module _ (place : ℕ → Point A) (ps : List Piece) (plane : IsPlane K place ps) where
    -- the piece of a directed piece, and points of it
    abbrev pub base : (d : Piece) → IsDirected ps d → Piece
    base d (inl i) = d
    base d (inr i) = reversed d

    base_among : (d : Piece) (h : IsDirected ps d) → Among ps (base d h)
    base_among d (inl i) = i
    base_among d (inr i) = i

    on_base : (d : Piece) (h : IsDirected ps d) (x : Point A) → OnPiece K place d x → OnPiece K place (base d h) x
    on_base d (inl i) x on = on
    on_base d (inr i) x on = on_turned K on

    base_end : (d : Piece) (h : IsDirected ps d) (v : ℕ) → IsEnd (base d h) v → IsEnd d v
    base_end d (inl i) v e = e
    base_end d (inr i) v (inl e) = inr e
    base_end d (inr i) v (inr e) = inl e

    same_base : (v u w : ℕ) (hu : IsDirected ps (piece v u)) (hw : IsDirected ps (piece v w)) → base (piece v u) hu ≡ base (piece v w) hw → u ≡ w
    same_base v u w (inl i) (inl j) e = ap (λ d. d.head) e
    same_base v u w (inl i) (inr j) e = ap (λ d. d.head) e ∙ ap (λ d. d.tail) e
    same_base v u w (inr i) (inl j) e = ap (λ d. d.tail) e ∙ ap (λ d. d.head) e
    same_base v u w (inr i) (inr j) e = ap (λ d. d.tail) e

    -- two pieces at a vertex have no other point in common
    pub only_vertex : (v u w : ℕ) → IsDirected ps (piece v u) → IsDirected ps (piece v w) → ¬ (u ≡ w) → (x : Point A) → IsPoint K x
        → IsOn K (place v) (place u) x → IsOn K (place v) (place w) x → IsSamePoint K (place v) x
    only_vertex v u w hu hw apart x hx on_u on_w =
        elim (meet_in_ends K place ps plane (base (piece v u) hu) (base (piece v w) hw) (base_among (piece v u) hu) (base_among (piece v w) hw)) [
          | inl e ↦ absurd (apart (same_base v u w hu hw e))
          | inr h ↦
              let m : (z : ℕ) × IsEnd (base (piece v u) hu) z × IsEnd (base (piece v w) hw) z × IsSamePoint K (place z) x
              = h x hx (on_base (piece v u) hu x on_u) (on_base (piece v w) hw x on_w) in
              by_end m.0 (base_end (piece v u) hu m.0 m.1) (base_end (piece v w) hw m.0 m.2) m.3
        ]
      where
        by_end : (z : ℕ) → IsEnd (piece v u) z → IsEnd (piece v w) z → IsSamePoint K (place z) x → IsSamePoint K (place v) x
        by_end z (inl e) g s = subst (λ z. IsSamePoint K (place z) x) (sym e) s
        by_end z (inr e) (inl g) s = subst (λ z. IsSamePoint K (place z) x) (sym g) s
        by_end z (inr e) (inr g) s = absurd (apart (e ∙ sym g))

    module _ (v u w : ℕ) (hu : IsDirected ps (piece v u)) (hw : IsDirected ps (piece v w)) (apart : ¬ (u ≡ w))
        (in_line : K.sign (determinant K.ops (place v) (place u) (place w)) ≡ Equal) (c : Point A) (hc : K.sign (determinant K.ops (place v) (place u) c) ≡ Less) where
      abbrev V : Point A
      V = place v

      abbrev U : Point A
      U = place u

      abbrev W : Point A
      W = place w

      abbrev across : A
      across = determinant K.ops U W c

      abbrev beyond : A
      beyond = determinant K.ops V W c

      abbrev before : A
      before = determinant K.ops V U c

      xs : List A
      xs = V.x ∷ V.y ∷ V.w ∷ U.x ∷ U.y ∷ U.w ∷ W.x ∷ W.y ∷ W.w ∷ c.x ∷ c.y ∷ c.w ∷ []

      opposite_sum : combination K.ops beyond U (K.neg before) W ≡ multiple_of K.ops across V
      opposite_sum =
          same_vector
          (ring_from K (V.x ∷ V.y ∷ V.w ∷ U.x ∷ U.y ∷ U.w ∷ W.x ∷ W.y ∷ W.w ∷ c.x ∷ c.y ∷ c.w ∷ []) (multiple (K.neg c.x) (search reads depth 40 fits 50000) (search reads depth 40 fits 50000) (search reads depth 40 fits 50000) (zero_is K in_line) no_equation) (search reads depth 40 fits 50000) (search reads depth 40 fits 50000) tt)
          (ring_from K (V.x ∷ V.y ∷ V.w ∷ U.x ∷ U.y ∷ U.w ∷ W.x ∷ W.y ∷ W.w ∷ c.x ∷ c.y ∷ c.w ∷ []) (multiple (K.neg c.y) (search reads depth 40 fits 50000) (search reads depth 40 fits 50000) (search reads depth 40 fits 50000) (zero_is K in_line) no_equation) (search reads depth 40 fits 50000) (search reads depth 40 fits 50000) tt)
          (ring_from K (V.x ∷ V.y ∷ V.w ∷ U.x ∷ U.y ∷ U.w ∷ W.x ∷ W.y ∷ W.w ∷ c.x ∷ c.y ∷ c.w ∷ []) (multiple (K.neg c.w) (search reads depth 40 fits 50000) (search reads depth 40 fits 50000) (search reads depth 40 fits 50000) (zero_is K in_line) no_equation) (search reads depth 40 fits 50000) (search reads depth 40 fits 50000) tt)

      ends_u : Ends K place (piece v u)
      ends_u = directed_ends K place ps plane (piece v u) hu

      ends_w : Ends K place (piece v w)
      ends_w = directed_ends K place ps plane (piece v w) hw

      before_gt : K.sign (K.neg before) ≡ Greater
      before_gt = sign_neg K before ∙ ap ordering_reverse hc

      not_first : IsOn K V W U → ⊥
      not_first on = ends_u.different (only_vertex v u w hu hw apart U ends_u.head_point (on_second V U) on)

      not_second : IsOn K V U W → ⊥
      not_second on = ends_w.different (only_vertex v u w hu hw apart W ends_w.head_point on (on_second V W))

      beyond_gt : K.sign beyond ≡ Greater
      beyond_gt = elim (at_most (K.sign beyond)) [
        | inr h ↦ h
        | inl h ↦ elim (at_most (K.sign across)) [
          | inr k ↦ absurd (not_second (record {
            from_share = across;
            to_share = K.neg beyond;
            factor = K.neg before;
            from_not_negative = greater_ge k;
            to_not_negative = reversed_ge beyond h;
            factor_positive = before_gt;
            is = sym (same_vector (to_second beyond (K.neg before) across U.x W.x V.x (ap (λ r. r.x) opposite_sum)) (to_second beyond (K.neg before) across U.y W.y V.y (ap (λ r. r.y) opposite_sum))
                (to_second beyond (K.neg before) across U.w W.w V.w (ap (λ r. r.w) opposite_sum)));
          }))
          | inl k ↦ absurd (not_first (record {
            from_share = K.neg across;
            to_share = K.neg before;
            factor = K.neg beyond;
            from_not_negative = reversed_ge across k;
            to_not_negative = greater_ge before_gt;
            factor_positive = first_less beyond (K.neg before) across U.w W.w V.w (ap (λ r. r.w) opposite_sum) before_gt k ends_u.head_point ends_w.head_point ends_u.tail_point;
            is = sym (same_vector (to_first beyond (K.neg before) across U.x W.x V.x (ap (λ r. r.x) opposite_sum)) (to_first beyond (K.neg before) across U.y W.y V.y (ap (λ r. r.y) opposite_sum))
                (to_first beyond (K.neg before) across U.w W.w V.w (ap (λ r. r.w) opposite_sum)));
          }))
        ]
      ]

      -- where u, v and w are in line, v lies between u and w
      pub opposite_on : IsOn K U W V
      opposite_on = record {
        from_share = beyond;
        to_share = K.neg before;
        factor = across;
        from_not_negative = greater_ge beyond_gt;
        to_not_negative = greater_ge before_gt;
        factor_positive = times_greater beyond (K.neg before) across U.w W.w V.w (ap (λ r. r.w) opposite_sum) beyond_gt before_gt ends_u.head_point ends_w.head_point ends_u.tail_point;
        is = sym (opposite_sum);
      }

      opposite_multiple : (z : Point A) → K.mul (K.neg before) (determinant K.ops V W z) ≡ K.mul beyond (K.neg (determinant K.ops V U z))
      unfolding opposite_on
      opposite_multiple z = by_numbers V U W z beyond (K.neg before) across (value_on K (line K.ops V z) opposite_on)
        where
          by_numbers : (v u w z : Point A) (b f a : A) → K.add (K.mul b (determinant K.ops v z u)) (K.mul f (determinant K.ops v z w)) ≡ K.mul a (determinant K.ops v z v)
              → K.mul f (determinant K.ops v w z) ≡ K.mul b (K.neg (determinant K.ops v u z))
          by_numbers v u w z b f a e =
              ring_from K (v.x ∷ v.y ∷ v.w ∷ u.x ∷ u.y ∷ u.w ∷ w.x ∷ w.y ∷ w.w ∷ z.x ∷ z.y ∷ z.w ∷ b ∷ f ∷ a ∷ [])
              (multiple (K.int (negsuc 0)) (search reads depth 40 fits 50000) (search reads depth 40 fits 50000) (search reads depth 40 fits 50000) e no_equation) (search reads depth 40 fits 50000) (search reads depth 40 fits 50000) tt

      -- what lies left of the one lies right of the other
      pub opposite_side : (z : Point A) → K.sign (determinant K.ops V W z) ≡ ordering_reverse (K.sign (determinant K.ops V U z))
      opposite_side z =
          sym (sign_of_multiple K (K.neg before) (determinant K.ops V W z) before_gt) ∙ ap K.sign (opposite_multiple z)
          ∙ sign_of_multiple K beyond (K.neg (determinant K.ops V U z)) beyond_gt ∙ sign_neg K (determinant K.ops V U z)
