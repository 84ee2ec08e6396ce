-- Two segments that have no point in common are parted by a line: that through one of them, or, where all four ends lie on
-- one line, a line perpendicular to it.
use mathlib.Core.Path.{◌≡◌, refl, sym, ap, ◌∙◌}
use mathlib.Core.List.{[], ◌∷◌}
use mathlib.Core.Logic.{◌⊎◌, inl, inr}
use lib.IntN.{pos}
use Rattle.std.specs.Prelude.{IsTrue}
use Rattle.std.specs.declared.cmp.Ordering.{Ordering}
use Rattle.std.specs.declared.cmp.Ordering.TheVariants.{Less, Equal, Greater}
use Rattle.std.specs.Ordering.{is_ge, is_le, ordering_reverse}
use Rattle.algebra.specs.OrderedRing.{OrderedRing}
use Rattle.algebra.proofs.Solvers.{ring, ring_from, multiple, no_equation, reads, sign_from, sign_from_multiple, known, no_sign, given, sum, product, square, negated, positive, negative, not_negative, not_positive, not_zero, any_sign, at_zero}
use Rattle.plane.specs.declared.point.Point.{Point}
use Rattle.plane.specs.declared.point.Line.{Line}
use Rattle.plane.specs.Points.{combination, multiple_of, x_from, y_from, IsPoint, IsSamePoint}
use Rattle.plane.specs.Lines.{perpendicular, value, line, opposite_line, determinant, IsAbove, IsNotAbove}
use Rattle.plane.specs.Segments.{SegmentsMeet}
use Rattle.plane.proofs.Signs.{greater_ge, equal_ge, equal_le, less_le, at_least, at_most, zero_is, zero_sign}
use Rattle.plane.proofs.Lines.{determinant_first, determinant_second, same_vector, sign_opposite, swapped, swapped_last, at_first, at_second, exchange, same_by_signs}
use Rattle.plane.proofs.OnSegments.{above_on, not_above_on, above_and_not, meet_turned, meet_back, met, from_is_on}

module _ {A : Type 0} (K : OrderedRing A) where
  -- a line that is above zero at p and q, and not above zero at a and b
  pub record Parts (p q a b : Point A) : Type 0 where
    pub by : Line A
    pub first_above : IsAbove K by p
    pub second_above : IsAbove K by q
    pub tail_not : IsNotAbove K by a
    pub head_not : IsNotAbove K by b

  pub parted_apart : {p q a b : Point A} → Parts p q a b → ¬ SegmentsMeet K p q a b
  parted_apart r m = above_and_not K r.by (above_on K r.by m.2 m.1 r.first_above r.second_above) (not_above_on K r.by m.3 r.tail_not r.head_not)

  pub parts_turned : {p q a b : Point A} → Parts p q a b → Parts q p a b
  parts_turned r = record { by = r.by; first_above = r.second_above; second_above = r.first_above; tail_not = r.tail_not; head_not = r.head_not }

  pub parts_back : {p q a b : Point A} → Parts p q a b → Parts p q b a
  parts_back r = record { by = r.by; first_above = r.first_above; second_above = r.second_above; tail_not = r.head_not; head_not = r.tail_not }

  -- ---- all on one line

  -- how far points lie ahead of u on the way to v
  abbrev pub ahead : Point A → Point A → Line A
  ahead u v = perpendicular K.ops u v u

  pub at_start : (u v : Point A) → K.sign (value K.ops (ahead u v) u) ≡ Equal
  at_start u v = zero_sign K (value K.ops (ahead u v) u) (ring K (u.x ∷ u.y ∷ u.w ∷ v.x ∷ v.y ∷ v.w ∷ []) (search reads depth 40 fits 50000) (search reads depth 40 fits 50000) tt)

  pub at_end : (u v : Point A) → ¬ IsSamePoint K u v → K.sign (value K.ops (ahead u v) v) ≡ Greater
  at_end u v different = by_signs (K.sign (x_from K.ops u v)) (K.sign (y_from K.ops u v)) refl refl
    where
      by_x : ¬ (K.sign (x_from K.ops u v) ≡ Equal) → K.sign (value K.ops (ahead u v) v) ≡ Greater
      by_x h =
          sign_from K (u.x ∷ u.y ∷ u.w ∷ v.x ∷ v.y ∷ v.w ∷ []) (known not_zero (search reads depth 40 fits 50000) h (known any_sign {a = y_from K.ops u v} (search reads depth 40 fits 50000) tt no_sign))
          positive (search reads depth 40 fits 50000) (sum (square (given 0)) (square (given 1))) tt tt

      by_y : ¬ (K.sign (y_from K.ops u v) ≡ Equal) → K.sign (value K.ops (ahead u v) v) ≡ Greater
      by_y h =
          sign_from K (u.x ∷ u.y ∷ u.w ∷ v.x ∷ v.y ∷ v.w ∷ []) (known not_zero (search reads depth 40 fits 50000) h (known any_sign {a = x_from K.ops u v} (search reads depth 40 fits 50000) tt no_sign))
          positive (search reads depth 40 fits 50000) (sum (square (given 0)) (square (given 1))) tt tt

      by_signs : (s t : Ordering) → K.sign (x_from K.ops u v) ≡ s → K.sign (y_from K.ops u v) ≡ t → K.sign (value K.ops (ahead u v) v) ≡ Greater
      by_signs Less t f g = by_x (λ z. absurd (cc))
      by_signs Greater t f g = by_x (λ z. absurd (cc))
      by_signs Equal Less f g = by_y (λ z. absurd (cc))
      by_signs Equal Greater f g = by_y (λ z. absurd (cc))
      by_signs Equal Equal f g = absurd (different (same_by_signs K (f, g)))

  -- a point of the line ab as a sum of multiples of a and b
  pub on_line : (a b p : Point A) → determinant K.ops a b p ≡ K.int (pos 0)
      → multiple_of K.ops (value K.ops (ahead a b) b) p ≡ combination K.ops (value K.ops (ahead b a) p) a (value K.ops (ahead a b) p) b
  on_line a b p h =
      same_vector
      (ring_from K (a.x ∷ a.y ∷ a.w ∷ b.x ∷ b.y ∷ b.w ∷ p.x ∷ p.y ∷ p.w ∷ []) (multiple (K.neg (y_from K.ops a b)) (search reads depth 40 fits 50000) (search reads depth 40 fits 50000) (search reads depth 40 fits 50000) h no_equation) (search reads depth 40 fits 50000) (search reads depth 40 fits 50000) tt)
      (ring_from K (a.x ∷ a.y ∷ a.w ∷ b.x ∷ b.y ∷ b.w ∷ p.x ∷ p.y ∷ p.w ∷ []) (multiple (x_from K.ops a b) (search reads depth 40 fits 50000) (search reads depth 40 fits 50000) (search reads depth 40 fits 50000) h no_equation) (search reads depth 40 fits 50000) (search reads depth 40 fits 50000) tt)
      (ring K (a.x ∷ a.y ∷ a.w ∷ b.x ∷ b.y ∷ b.w ∷ p.x ∷ p.y ∷ p.w ∷ []) (search reads depth 40 fits 50000) (search reads depth 40 fits 50000) tt)

  -- of n p = s a + t b and n q = u a + v b
  balanced : (n s t u v a b p q : A) → K.mul n p ≡ K.add (K.mul s a) (K.mul t b) → K.mul n q ≡ K.add (K.mul u a) (K.mul v b)
      → K.mul (K.sub (K.mul v s) (K.mul t u)) a ≡ K.add (K.mul (K.mul n v) p) (K.mul (K.mul n (K.neg t)) q)
  balanced n s t u v a b p q h k =
      ring_from K (n ∷ s ∷ t ∷ u ∷ v ∷ a ∷ b ∷ p ∷ q ∷ []) (multiple (K.neg v) (search reads depth 40 fits 50000) (search reads depth 40 fits 50000) (search reads depth 40 fits 50000) h (multiple t (search reads depth 40 fits 50000) (search reads depth 40 fits 50000) (search reads depth 40 fits 50000) k no_equation)) (search reads depth 40 fits 50000) (search reads depth 40 fits 50000) tt

  module _ {p q a b : Point A} (hp : IsPoint K p) (hq : IsPoint K q) (ha : IsPoint K a) (hb : IsPoint K b) (different : ¬ IsSamePoint K a b)
      (abp : determinant K.ops a b p ≡ K.int (pos 0)) (abq : determinant K.ops a b q ≡ K.int (pos 0)) (apart : ¬ SegmentsMeet K p q a b) where
    length : K.sign (value K.ops (ahead a b) b) ≡ Greater
    length = at_end a b different

    before_both : K.sign (value K.ops (ahead a b) p) ≡ Less → K.sign (value K.ops (ahead a b) q) ≡ Less → Parts p q a b
    before_both h k = record {
      by = opposite_line K.ops (ahead a b);
      first_above = sign_opposite K (ahead a b) p ∙ ap ordering_reverse h;
      second_above = sign_opposite K (ahead a b) q ∙ ap ordering_reverse k;
      tail_not = equal_le (sign_opposite K (ahead a b) a ∙ ap ordering_reverse (at_start a b));
      head_not = less_le (sign_opposite K (ahead a b) b ∙ ap ordering_reverse length);
    }

    -- where p lies before a and q after b, the segment from p to q has a on it
    around : K.sign (value K.ops (ahead a b) p) ≡ Less → K.sign (value K.ops (ahead b a) q) ≡ Less → ⊥
    around h k =
        let n : A = value K.ops (ahead a b) b in
        let s : A = value K.ops (ahead b a) p in
        let t : A = value K.ops (ahead a b) p in
        let u : A = value K.ops (ahead b a) q in
        let v : A = value K.ops (ahead a b) q in
        let p_is = on_line a b p abp in
        let q_is = on_line a b q abq in
        let v_gt : K.sign v ≡ Greater = past n u v a.w b.w q.w length hq ha hb k (ap (λ r. r.w) q_is) in
        let shares : multiple_of K.ops (K.sub (K.mul v s) (K.mul t u)) a ≡ combination K.ops (K.mul n v) p (K.mul n (K.neg t)) q
        = same_vector (balanced n s t u v a.x b.x p.x q.x (ap (λ r. r.x) p_is) (ap (λ r. r.x) q_is)) (balanced n s t u v a.y b.y p.y q.y (ap (λ r. r.y) p_is) (ap (λ r. r.y) q_is))
        (balanced n s t u v a.w b.w p.w q.w (ap (λ r. r.w) p_is) (ap (λ r. r.w) q_is)) in
        apart (
          a,
          ha,
          record {
            factor = K.sub (K.mul v s) (K.mul t u);
            from_share = K.mul n v;
            to_share = K.mul n (K.neg t);
            factor_positive = factor_gt n s t u v a.w p.w q.w length hp hq ha h v_gt (ap (λ r. r.w) shares);
            from_not_negative = share_ge n v length v_gt;
            to_not_negative = other_ge n t length h;
            is = shares;
          },
          from_is_on K a b,
        )
      where
        past : (n u v aw bw qw : A) → K.sign n ≡ Greater → K.sign qw ≡ Greater → K.sign aw ≡ Greater → K.sign bw ≡ Greater → K.sign u ≡ Less
            → K.mul n qw ≡ K.add (K.mul u aw) (K.mul v bw) → K.sign v ≡ Greater
        past n u v aw bw qw hn hq ha hb hu e =
            let w : K.sign (K.add (K.mul u aw) (K.mul v bw)) ≡ Greater
            = ap K.sign (sym e) ∙ sign_from K (n ∷ qw ∷ []) (known positive (search reads depth 40 fits 50000) hn (known positive (search reads depth 40 fits 50000) hq no_sign)) positive (search reads depth 40 fits 50000) (product (given 0) (given 1)) tt tt in
            sign_from_multiple K (u ∷ v ∷ aw ∷ bw ∷ []) (known positive (search reads depth 40 fits 50000) w (known positive (search reads depth 40 fits 50000) ha (known negative (search reads depth 40 fits 50000) hu no_sign)))
            positive (search reads depth 40 fits 50000) hb (search reads depth 40 fits 50000) (sum (given 0) (negated (product (given 2) (given 1)))) tt tt

        factor_gt : (n s t u v aw pw qw : A) → K.sign n ≡ Greater → K.sign pw ≡ Greater → K.sign qw ≡ Greater → K.sign aw ≡ Greater → K.sign t ≡ Less → K.sign v ≡ Greater
            → K.mul (K.sub (K.mul v s) (K.mul t u)) aw ≡ K.add (K.mul (K.mul n v) pw) (K.mul (K.mul n (K.neg t)) qw) → K.sign (K.sub (K.mul v s) (K.mul t u)) ≡ Greater
        factor_gt n s t u v aw pw qw hn hp hq ha ht hv e =
            let w : K.sign (K.mul (K.sub (K.mul v s) (K.mul t u)) aw) ≡ Greater
            = ap K.sign e ∙ sign_from K (n ∷ t ∷ v ∷ pw ∷ qw ∷ []) (known positive (search reads depth 40 fits 50000) hn (known positive (search reads depth 40 fits 50000) hp (known positive (search reads depth 40 fits 50000) hq (known negative (search reads depth 40 fits 50000) ht (known positive (search reads depth 40 fits 50000) hv no_sign)))))
            positive (search reads depth 40 fits 50000) (sum (product (product (given 0) (given 4)) (given 1)) (product (product (given 0) (negated (given 3))) (given 2))) tt tt in
            sign_from_multiple K (s ∷ t ∷ u ∷ v ∷ aw ∷ []) (known positive (search reads depth 40 fits 50000) w no_sign) positive (search reads depth 40 fits 50000) ha (search reads depth 40 fits 50000) (given 0) tt tt

        share_ge : (n v : A) → K.sign n ≡ Greater → K.sign v ≡ Greater → IsTrue (is_ge (K.sign (K.mul n v)))
        share_ge n v hn hv = greater_ge (sign_from K (n ∷ v ∷ []) (known positive (search reads depth 40 fits 50000) hn (known positive (search reads depth 40 fits 50000) hv no_sign)) positive (search reads depth 40 fits 50000) (product (given 0) (given 1)) tt tt)

        other_ge : (n t : A) → K.sign n ≡ Greater → K.sign t ≡ Less → IsTrue (is_ge (K.sign (K.mul n (K.neg t))))
        other_ge n t hn ht = greater_ge (sign_from K (n ∷ t ∷ []) (known positive (search reads depth 40 fits 50000) hn (known negative (search reads depth 40 fits 50000) ht no_sign)) positive (search reads depth 40 fits 50000) (product (given 0) (negated (given 1))) tt tt)

    -- p lies before a or after b
    outside : (K.sign (value K.ops (ahead a b) p) ≡ Less) ⊎ (K.sign (value K.ops (ahead b a) p) ≡ Less)
    outside = elim (at_least (K.sign (value K.ops (ahead a b) p))) [
      | inr h ↦ inl h
      | inl h ↦ elim (at_least (K.sign (value K.ops (ahead b a) p))) [
        | inr k ↦ inr k
        | inl k ↦ absurd (apart (
          p,
          hp,
          from_is_on K p q,
          record {
            factor = value K.ops (ahead a b) b;
            from_share = value K.ops (ahead b a) p;
            to_share = value K.ops (ahead a b) p;
            factor_positive = length;
            from_not_negative = k;
            to_not_negative = h;
            is = on_line a b p abp;
          },
        ))
      ]
    ]

  module _ {p q a b : Point A} (hp : IsPoint K p) (hq : IsPoint K q) (ha : IsPoint K a) (hb : IsPoint K b) (different : ¬ IsSamePoint K a b)
      (abp : determinant K.ops a b p ≡ K.int (pos 0)) (abq : determinant K.ops a b q ≡ K.int (pos 0)) (apart : ¬ SegmentsMeet K p q a b) where
    different_back : ¬ IsSamePoint K b a
    different_back s = different (record { same_x = sym s.same_x; same_y = sym s.same_y })

    bap : determinant K.ops b a p ≡ K.int (pos 0)
    bap = zero_is K (swapped K a b p ∙ ap ordering_reverse (zero_sign K (determinant K.ops a b p) abp))

    baq : determinant K.ops b a q ≡ K.int (pos 0)
    baq = zero_is K (swapped K a b q ∙ ap ordering_reverse (zero_sign K (determinant K.ops a b q) abq))

    parted_on_line : Parts p q a b
    parted_on_line = elim (outside hp hq ha hb different abp abq apart) [
      | inl h ↦ elim (outside hq hp ha hb different abq abp (λ m. apart (meet_turned K m))) [
        | inl k ↦ before_both hp hq ha hb different abp abq apart h k
        | inr k ↦ absurd (around hp hq ha hb different abp abq apart h k)
      ]
      | inr h ↦ elim (outside hq hp ha hb different abq abp (λ m. apart (meet_turned K m))) [
        | inl k ↦ absurd (around hq hp ha hb different abq abp (λ m. apart (meet_turned K m)) k h)
        | inr k ↦ parts_back (before_both hp hq hb ha different_back bap baq (λ m. apart (meet_back K m)) h k)
      ]
    ]

  -- ---- a line through p and q that has a and b on one side

  -- c times l and d times the weight
  abbrev tilted : A → Line A → A → Line A
  tilted c l d = record { a = K.mul c l.a; b = K.mul c l.b; c = K.add (K.mul c l.c) d }

  value_tilted : (c : A) (l : Line A) (d : A) (p : Point A) → value K.ops (tilted c l d) p ≡ K.add (K.mul c (value K.ops l p)) (K.mul d p.w)
  value_tilted c l d p = ring K (c ∷ l.a ∷ l.b ∷ l.c ∷ d ∷ p.x ∷ p.y ∷ p.w ∷ []) (search reads depth 40 fits 50000) (search reads depth 40 fits 50000) tt

  -- a line that has p and q on it, and a and b right of it, is tilted so that p and q lie above zero
  beside_line : {p q a b : Point A} → IsPoint K p → IsPoint K q → IsPoint K a → IsPoint K b
      → K.sign (determinant K.ops p q a) ≡ Less → K.sign (determinant K.ops p q b) ≡ Less → Parts p q a b
  beside_line {p} {q} {a} {b} hp hq ha hb h k =
      let x : A = determinant K.ops p q a in
      let y : A = determinant K.ops p q b in
      let c : A = K.neg (K.add (K.mul a.w y) (K.mul b.w x)) in
      let d : A = K.mul x y in
      record {
        by = tilted c (line K.ops p q) d;
        first_above = ap K.sign (value_tilted c (line K.ops p q) d p) ∙ above_there x y a.w b.w (determinant K.ops p q p) p.w h k hp (determinant_first K p q);
        second_above = ap K.sign (value_tilted c (line K.ops p q) d q) ∙ above_there x y a.w b.w (determinant K.ops p q q) q.w h k hq (determinant_second K p q);
        tail_not = rw (value_tilted c (line K.ops p q) d a) (first_not x y a.w b.w h hb);
        head_not = rw (value_tilted c (line K.ops p q) d b) (second_not x y a.w b.w k ha);
      }
    where
      above_there : (x y aw bw z rw : A) → K.sign x ≡ Less → K.sign y ≡ Less → K.sign rw ≡ Greater → z ≡ K.int (pos 0)
          → K.sign (K.add (K.mul (K.neg (K.add (K.mul aw y) (K.mul bw x))) z) (K.mul (K.mul x y) rw)) ≡ Greater
      above_there x y aw bw z rw h k hr e =
          sign_from K (x ∷ y ∷ aw ∷ bw ∷ z ∷ rw ∷ []) (known negative (search reads depth 40 fits 50000) h (known negative (search reads depth 40 fits 50000) k (known positive (search reads depth 40 fits 50000) hr (known at_zero {a = z} (search reads depth 40 fits 50000) (zero_sign K z e)
          (known any_sign {a = K.neg (K.add (K.mul aw y) (K.mul bw x))} (search reads depth 40 fits 50000) tt no_sign)))))
          positive (search reads depth 40 fits 50000) (sum (product (given 4) (given 3)) (product (product (given 0) (given 1)) (given 2))) tt tt

      first_not : (x y aw bw : A) → K.sign x ≡ Less → K.sign bw ≡ Greater
          → IsTrue (is_le (K.sign (K.add (K.mul (K.neg (K.add (K.mul aw y) (K.mul bw x))) x) (K.mul (K.mul x y) aw))))
      first_not x y aw bw h hb = sign_from K (x ∷ y ∷ aw ∷ bw ∷ []) (known positive (search reads depth 40 fits 50000) hb (known negative (search reads depth 40 fits 50000) h no_sign)) not_positive (search reads depth 40 fits 50000) (negated (product (given 0) (square (given 1)))) tt tt

      second_not : (x y aw bw : A) → K.sign y ≡ Less → K.sign aw ≡ Greater
          → IsTrue (is_le (K.sign (K.add (K.mul (K.neg (K.add (K.mul aw y) (K.mul bw x))) y) (K.mul (K.mul x y) bw))))
      second_not x y aw bw h ha = sign_from K (x ∷ y ∷ aw ∷ bw ∷ []) (known positive (search reads depth 40 fits 50000) ha (known negative (search reads depth 40 fits 50000) h no_sign)) not_positive (search reads depth 40 fits 50000) (negated (product (given 0) (square (given 1)))) tt tt

  sum_less : (s t x y : A) → K.sign s ≡ Less → IsTrue (is_le (K.sign t)) → K.sign x ≡ Greater → K.sign y ≡ Greater → K.sign (K.add (K.mul s x) (K.mul t y)) ≡ Less
  sum_less s t x y hs ht hx hy =
      sign_from K (s ∷ t ∷ x ∷ y ∷ []) (known negative (search reads depth 40 fits 50000) hs (known not_positive (search reads depth 40 fits 50000) ht (known positive (search reads depth 40 fits 50000) hx (known positive (search reads depth 40 fits 50000) hy no_sign))))
      negative (search reads depth 40 fits 50000) (sum (product (given 0) (given 2)) (product (given 1) (given 3))) tt tt

  sum_less_second : (s t x y : A) → IsTrue (is_le (K.sign s)) → K.sign t ≡ Less → K.sign x ≡ Greater → K.sign y ≡ Greater → K.sign (K.add (K.mul s x) (K.mul t y)) ≡ Less
  sum_less_second s t x y hs ht hx hy =
      sign_from K (s ∷ t ∷ x ∷ y ∷ []) (known not_positive (search reads depth 40 fits 50000) hs (known negative (search reads depth 40 fits 50000) ht (known positive (search reads depth 40 fits 50000) hx (known positive (search reads depth 40 fits 50000) hy no_sign))))
      negative (search reads depth 40 fits 50000) (sum (product (given 0) (given 2)) (product (given 1) (given 3))) tt tt

  module _ {p q a b : Point A} (hp : IsPoint K p) (hq : IsPoint K q) (ha : IsPoint K a) (hb : IsPoint K b) (apart : ¬ SegmentsMeet K p q a b) where
    -- where a line through a and b leads between p and q, a and b lie on one side of the line through p and q
    between_lines : IsTrue (is_ge (K.sign (determinant K.ops a q b))) → IsTrue (is_ge (K.sign (determinant K.ops a b p)))
        → K.sign (combination K.ops (determinant K.ops a q b) p (determinant K.ops a b p) q).w ≡ Greater → Parts p q a b
    between_lines al be w = elim (at_least (K.sign (determinant K.ops p q b))) [
      | inl ga ↦ elim (at_least (K.sign (determinant K.ops q p a))) [
        | inl de ↦ absurd (apart (met K {p = p} {q = q} {a = a} {b = b} _ _ _ _ (exchange K p q a b) al be ga de w))
        | inr de ↦ elim (at_most (K.sign (determinant K.ops p q b))) [
          | inl ga ↦ absurd (not_less (sum_less_second (determinant K.ops p q b) (determinant K.ops q p a) a.w b.w ga de ha hb))
          | inr ga ↦ parts_turned (beside_line hq hp ha hb de (swapped K p q b ∙ ap ordering_reverse ga))
        ]
      ]
      | inr ga ↦ elim (at_most (K.sign (determinant K.ops q p a))) [
        | inl de ↦ absurd (not_less (sum_less (determinant K.ops p q b) (determinant K.ops q p a) a.w b.w ga de ha hb))
        | inr de ↦ beside_line hp hq ha hb (swapped K q p a ∙ ap ordering_reverse de) ga
      ]
    ]
      where
        not_less : K.sign (combination K.ops (determinant K.ops p q b) a (determinant K.ops q p a) b).w ≡ Less → ⊥
        not_less h = let e : K.sign (combination K.ops (determinant K.ops p q b) a (determinant K.ops q p a) b).w ≡ Greater
            = sym (ap (λ (r : Point A). K.sign r.w) (exchange K p q a b)) ∙ w in absurd (cc)

  weight_first : (s t x y : A) → K.sign s ≡ Greater → IsTrue (is_ge (K.sign t)) → K.sign x ≡ Greater → K.sign y ≡ Greater → K.sign (K.add (K.mul s x) (K.mul t y)) ≡ Greater
  weight_first s t x y hs ht hx hy =
      sign_from K (s ∷ t ∷ x ∷ y ∷ []) (known positive (search reads depth 40 fits 50000) hs (known not_negative (search reads depth 40 fits 50000) ht (known positive (search reads depth 40 fits 50000) hx (known positive (search reads depth 40 fits 50000) hy no_sign))))
      positive (search reads depth 40 fits 50000) (sum (product (given 0) (given 2)) (product (given 1) (given 3))) tt tt

  weight_second : (s t x y : A) → IsTrue (is_ge (K.sign s)) → K.sign t ≡ Greater → K.sign x ≡ Greater → K.sign y ≡ Greater → K.sign (K.add (K.mul s x) (K.mul t y)) ≡ Greater
  weight_second s t x y hs ht hx hy =
      sign_from K (s ∷ t ∷ x ∷ y ∷ []) (known not_negative (search reads depth 40 fits 50000) hs (known positive (search reads depth 40 fits 50000) ht (known positive (search reads depth 40 fits 50000) hx (known positive (search reads depth 40 fits 50000) hy no_sign))))
      positive (search reads depth 40 fits 50000) (sum (product (given 0) (given 2)) (product (given 1) (given 3))) tt tt

  module _ {p q a b : Point A} (hp : IsPoint K p) (hq : IsPoint K q) (ha : IsPoint K a) (hb : IsPoint K b) (apart : ¬ SegmentsMeet K p q a b) where
    -- p left of the line ab or on it, q right of it or on it, and not both on it
    crossed_first : K.sign (determinant K.ops a b p) ≡ Greater → IsTrue (is_ge (K.sign (determinant K.ops a q b))) → Parts p q a b
    crossed_first h k = between_lines hp hq ha hb apart k (greater_ge h) (weight_second (determinant K.ops a q b) (determinant K.ops a b p) p.w q.w k h hp hq)

    crossed_second : K.sign (determinant K.ops a b p) ≡ Equal → K.sign (determinant K.ops a q b) ≡ Greater → Parts p q a b
    crossed_second h k = between_lines hp hq ha hb apart (greater_ge k) (equal_ge h) (weight_first (determinant K.ops a q b) (determinant K.ops a b p) p.w q.w k (equal_ge h) hp hq)

  module _ {p q a b : Point A} (hp : IsPoint K p) (hq : IsPoint K q) (ha : IsPoint K a) (hb : IsPoint K b) (different : ¬ IsSamePoint K a b) (apart : ¬ SegmentsMeet K p q a b) where
    -- two segments that have no point in common, of which the second has two ends, are parted
    pub parted : Parts p q a b
    parted = by_signs (K.sign (determinant K.ops a b p)) (K.sign (determinant K.ops a b q)) refl refl
      where
        turned : ¬ SegmentsMeet K q p a b
        turned m = apart (meet_turned K m)

        al_is : (r : Point A) (s : Ordering) → K.sign (determinant K.ops a b r) ≡ s → K.sign (determinant K.ops a r b) ≡ ordering_reverse s
        al_is r s h = swapped_last K a b r ∙ ap ordering_reverse h

        by_signs : (s t : Ordering) → K.sign (determinant K.ops a b p) ≡ s → K.sign (determinant K.ops a b q) ≡ t → Parts p q a b
        by_signs Greater Greater h k = record { by = line K.ops a b; first_above = h; second_above = k; tail_not = equal_le (at_first K a b); head_not = equal_le (at_second K a b) }
        by_signs Less Less h k = record {
          by = line K.ops b a;
          first_above = swapped K a b p ∙ ap ordering_reverse h;
          second_above = swapped K a b q ∙ ap ordering_reverse k;
          tail_not = equal_le (at_second K b a);
          head_not = equal_le (at_first K b a);
        }
        by_signs Greater Equal h k = crossed_first hp hq ha hb apart h (equal_ge (al_is q Equal k))
        by_signs Greater Less h k = crossed_first hp hq ha hb apart h (greater_ge (al_is q Less k))
        by_signs Equal Less h k = crossed_second hp hq ha hb apart h (al_is q Less k)
        by_signs Equal Greater h k = parts_turned (crossed_first hq hp ha hb turned k (equal_ge (al_is p Equal h)))
        by_signs Less Greater h k = parts_turned (crossed_first hq hp ha hb turned k (greater_ge (al_is p Less h)))
        by_signs Less Equal h k = parts_turned (crossed_second hq hp ha hb turned k (al_is p Less h))
        by_signs Equal Equal h k = parted_on_line hp hq ha hb different (zero_is K h) (zero_is K k) apart
