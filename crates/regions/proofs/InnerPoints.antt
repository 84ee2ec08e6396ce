-- Inner points of the pieces of a plane drawing: no other piece meets them, and what is left of a piece is one region.
use Prim.Native.Nat.{ℕ}
use mathlib.Core.Path.{◌≡◌, refl, sym, ap, ◌∙◌, subst}
use mathlib.Core.List.{List, [], ◌∷◌}
use mathlib.Core.Logic.{◌⊎◌, inl, inr}
use lib.IntN.{pos}
use Rattle.plane.proofs.Lines.{value_weight, from_x, from_y, from_x_itself, from_y_itself, same_by_lines, lines_of_same, same_turned, same_by_signs, value_combination, same_vector, weight_line, at_first, at_second}
use Rattle.std.specs.Prelude.{IsTrue}
use Rattle.std.specs.declared.cmp.Ordering.{Ordering}
use Rattle.std.specs.declared.cmp.Ordering.TheVariants.{Less, Equal, Greater}
use Rattle.std.specs.Ordering.{is_ge}
use Rattle.algebra.specs.OrderedRing.{OrderedRing}
use Rattle.plane.specs.declared.point.Point.{Point}
use Rattle.plane.specs.Lines.{value, determinant, line}
use Rattle.algebra.proofs.Solvers.{ring, reads, sign_from, sign_from_multiple, known, no_sign, given, sum, product, square, negated, positive, not_negative, any_sign, at_zero, not_zero}
use Rattle.plane.specs.Points.{combination, IsPoint, IsSamePoint, x_from, y_from}
use Rattle.plane.specs.Segments.{IsOn}
use Rattle.regions.proofs.Drawings.{Piece, reversed, Among, IsDirected, IsEnd, OnPiece, MeetInEnds, IsPlane}
use Rattle.regions.proofs.Regions.{middle_of, LeftAt, OneRegion}
use Rattle.plane.proofs.Signs.{greater_ge, zero_is, equal_le}
use Rattle.plane.proofs.Nearby.{Closer, closer_point}
use Rattle.plane.proofs.Separation.{Parts, parted}
use Rattle.plane.proofs.OnSegments.{some_share, sign_on}
use Rattle.regions.proofs.Neighbourhoods.{Guard, strip, some_left_at}

module _ {A : Type 0} (K : OrderedRing A) where
  -- ---- points strictly between two ends

  pub closer_turned : {a b m : Point A} → Closer K a b m → Closer K b a m
  closer_turned {a} {b} {m} c = record {
    stay = c.go;
    go = c.stay;
    stay_gt = c.go_gt;
    go_gt = c.stay_gt;
    is = c.is ∙ same_vector (K.add_comm (K.mul c.stay a.x) (K.mul c.go b.x)) (K.add_comm (K.mul c.stay a.y) (K.mul c.go b.y)) (K.add_comm (K.mul c.stay a.w) (K.mul c.go b.w));
  }

  sum_regrouped : (s t u v x y a b : A) → K.add (K.mul s (K.add (K.mul u a) (K.mul v b))) (K.mul t (K.add (K.mul x a) (K.mul y b)))
      ≡ K.add (K.mul (K.add (K.mul s u) (K.mul t x)) a) (K.mul (K.add (K.mul s v) (K.mul t y)) b)
  sum_regrouped s t u v x y a b = ring K (s ∷ t ∷ u ∷ v ∷ x ∷ y ∷ a ∷ b ∷ []) (search reads depth 40 fits 50000) (search reads depth 40 fits 50000) tt

  shared : (s t u x : A) → IsTrue (is_ge (K.sign s)) → IsTrue (is_ge (K.sign t)) → K.sign u ≡ Greater → K.sign x ≡ Greater → (K.sign s ≡ Greater) ⊎ (K.sign t ≡ Greater)
      → K.sign (K.add (K.mul s u) (K.mul t x)) ≡ Greater
  shared s t u x hs ht hu hx (inl h) =
      sign_from K (s ∷ t ∷ u ∷ x ∷ []) (known positive (search reads depth 40 fits 50000) h (known not_negative (search reads depth 40 fits 50000) ht (known positive (search reads depth 40 fits 50000) hu (known positive (search reads depth 40 fits 50000) hx no_sign)))) positive (search reads depth 40 fits 50000)
      (sum (product (given 0) (given 2)) (product (given 1) (given 3))) tt tt
  shared s t u x hs ht hu hx (inr h) =
      sign_from K (s ∷ t ∷ u ∷ x ∷ []) (known not_negative (search reads depth 40 fits 50000) hs (known positive (search reads depth 40 fits 50000) h (known positive (search reads depth 40 fits 50000) hu (known positive (search reads depth 40 fits 50000) hx no_sign)))) positive (search reads depth 40 fits 50000)
      (sum (product (given 0) (given 2)) (product (given 1) (given 3))) tt tt

  -- a point between two points of the open segment ab lies on the segment, with a share of both ends
  pub inner_on : {a b m n x : Point A} → Closer K a b m → Closer K a b n → IsPoint K x → IsOn K m n x
      → (on : IsOn K a b x) × (K.sign on.from_share ≡ Greater) × (K.sign on.to_share ≡ Greater)
  inner_on {a} {b} {m} {n} {x} c d hx on = (
    record {
      from_share = K.add (K.mul on.from_share c.stay) (K.mul on.to_share d.stay);
      to_share = K.add (K.mul on.from_share c.go) (K.mul on.to_share d.go);
      factor = on.factor;
      from_not_negative = greater_ge first;
      to_not_negative = greater_ge second;
      factor_positive = on.factor_positive;
      is =
          sym (sym (same_vector (sum_regrouped on.from_share on.to_share c.stay c.go d.stay d.go a.x b.x) (sum_regrouped on.from_share on.to_share c.stay c.go d.stay d.go a.y b.y)
          (sum_regrouped on.from_share on.to_share c.stay c.go d.stay d.go a.w b.w))
          ∙ ap (λ q. combination K.ops on.from_share q on.to_share (combination K.ops d.stay a d.go b)) (sym c.is) ∙ ap (λ q. combination K.ops on.from_share m on.to_share q) (sym d.is) ∙ (sym on.is));
    },
    first,
    second,
  )
    where
      first : K.sign (K.add (K.mul on.from_share c.stay) (K.mul on.to_share d.stay)) ≡ Greater
      first = shared on.from_share on.to_share c.stay d.stay on.from_not_negative on.to_not_negative c.stay_gt d.stay_gt (some_share K on hx)

      second : K.sign (K.add (K.mul on.from_share c.go) (K.mul on.to_share d.go)) ≡ Greater
      second = shared on.from_share on.to_share c.go d.go on.from_not_negative on.to_not_negative c.go_gt d.go_gt (some_share K on hx)

  pub far_zero : (s t x y : A) → K.sign t ≡ Greater → K.sign x ≡ Equal → K.sign (K.add (K.mul s x) (K.mul t y)) ≡ Equal → K.sign y ≡ Equal
  far_zero s t x y ht hx h =
      sign_from_multiple K (s ∷ t ∷ x ∷ y ∷ []) (known at_zero (search reads depth 40 fits 50000) h (known at_zero (search reads depth 40 fits 50000) hx (known any_sign {a = s} (search reads depth 40 fits 50000) tt no_sign))) at_zero (search reads depth 40 fits 50000) ht (search reads depth 40 fits 50000)
      (sum (given 0) (negated (product (given 2) (given 1)))) tt tt

  pub near_zero : (s t x y : A) → K.sign s ≡ Greater → K.sign y ≡ Equal → K.sign (K.add (K.mul s x) (K.mul t y)) ≡ Equal → K.sign x ≡ Equal
  near_zero s t x y hs hy h =
      sign_from_multiple K (s ∷ t ∷ x ∷ y ∷ []) (known at_zero (search reads depth 40 fits 50000) h (known at_zero (search reads depth 40 fits 50000) hy (known any_sign {a = t} (search reads depth 40 fits 50000) tt no_sign))) at_zero (search reads depth 40 fits 50000) hs (search reads depth 40 fits 50000)
      (sum (given 0) (negated (product (given 2) (given 1)))) tt tt

  -- a point with a share of both ends is neither
  pub inner_not_first : {a b x : Point A} → ¬ IsSamePoint K a b → (on : IsOn K a b x) → K.sign on.to_share ≡ Greater → ¬ IsSamePoint K a x
  inner_not_first {a} {b} {x} different on h s =
      different (same_by_lines K (
        far_zero on.from_share on.to_share (value K.ops (from_x K a) a) (value K.ops (from_x K a) b) h (from_x_itself K a) (sign_on K (from_x K a) on ∙ (lines_of_same K s).0),
        far_zero on.from_share on.to_share (value K.ops (from_y K a) a) (value K.ops (from_y K a) b) h (from_y_itself K a) (sign_on K (from_y K a) on ∙ (lines_of_same K s).1),
      ))

  pub inner_not_second : {a b x : Point A} → ¬ IsSamePoint K a b → (on : IsOn K a b x) → K.sign on.from_share ≡ Greater → ¬ IsSamePoint K b x
  inner_not_second {a} {b} {x} different on h s =
      different (same_turned K (same_by_lines K (
        near_zero on.from_share on.to_share (value K.ops (from_x K b) a) (value K.ops (from_x K b) b) h (from_x_itself K b) (sign_on K (from_x K b) on ∙ (lines_of_same K s).0),
        near_zero on.from_share on.to_share (value K.ops (from_y K b) a) (value K.ops (from_y K b) b) h (from_y_itself K b) (sign_on K (from_y K b) on ∙ (lines_of_same K s).1),
      )))

  -- a point of the line ab
  pub on_line : {a b m : Point A} → Closer K a b m → determinant K.ops a b m ≡ K.int (pos 0)
  on_line {a} {b} {m} c =
      zero_is K
      (ap (λ q. K.sign (determinant K.ops a b q)) c.is ∙ ap K.sign (value_combination K (line K.ops a b) c.stay c.go a b)
      ∙ sign_from K (determinant K.ops a b a ∷ determinant K.ops a b b ∷ c.stay ∷ c.go ∷ [])
      (known at_zero (search reads depth 40 fits 50000) (at_first K a b) (known at_zero (search reads depth 40 fits 50000) (at_second K a b) (known positive (search reads depth 40 fits 50000) c.stay_gt (known positive (search reads depth 40 fits 50000) c.go_gt no_sign))))
      at_zero (search reads depth 40 fits 50000) (sum (product (given 2) (given 0)) (product (given 3) (given 1))) tt tt)

  -- the point that lies of m as the way from a to b turned to the left
  abbrev pub beside : Point A → Point A → Point A → Point A
  beside a b m = record { x = K.sub m.x (y_from K.ops a b); y = K.add m.y (x_from K.ops a b); w = m.w }

  pub beside_left : (a b m : Point A) → ¬ IsSamePoint K a b → determinant K.ops a b m ≡ K.int (pos 0) → K.sign (determinant K.ops a b (beside a b m)) ≡ Greater
  beside_left a b m different e = by_signs (K.sign (x_from K.ops a b)) (K.sign (y_from K.ops a b)) refl refl
    where
      xs : List A
      xs = a.x ∷ a.y ∷ a.w ∷ b.x ∷ b.y ∷ b.w ∷ m.x ∷ m.y ∷ m.w ∷ []

      on_it : K.sign (determinant K.ops a b m) ≡ Equal
      on_it = ap K.sign e ∙ K.sign_int (pos 0)

      by_x : ¬ (K.sign (x_from K.ops a b) ≡ Equal) → K.sign (determinant K.ops a b (beside a b m)) ≡ Greater
      by_x h =
          sign_from K (a.x ∷ a.y ∷ a.w ∷ b.x ∷ b.y ∷ b.w ∷ m.x ∷ m.y ∷ m.w ∷ [])
          (known at_zero (search reads depth 40 fits 50000) on_it (known not_zero (search reads depth 40 fits 50000) h (known any_sign {a = y_from K.ops a b} (search reads depth 40 fits 50000) tt no_sign)))
          positive (search reads depth 40 fits 50000) (sum (given 0) (sum (square (given 1)) (square (given 2)))) tt tt

      by_y : ¬ (K.sign (y_from K.ops a b) ≡ Equal) → K.sign (determinant K.ops a b (beside a b m)) ≡ Greater
      by_y h =
          sign_from K (a.x ∷ a.y ∷ a.w ∷ b.x ∷ b.y ∷ b.w ∷ m.x ∷ m.y ∷ m.w ∷ [])
          (known at_zero (search reads depth 40 fits 50000) on_it (known not_zero (search reads depth 40 fits 50000) h (known any_sign {a = x_from K.ops a b} (search reads depth 40 fits 50000) tt no_sign)))
          positive (search reads depth 40 fits 50000) (sum (given 0) (sum (square (given 1)) (square (given 2)))) tt tt

      by_signs : (s t : Ordering) → K.sign (x_from K.ops a b) ≡ s → K.sign (y_from K.ops a b) ≡ t → K.sign (determinant K.ops a b (beside a b m)) ≡ Greater
      by_signs Less t f g = by_x (λ z. absurd (cc))
      by_signs Greater t f g = by_x (λ z. absurd (cc))
      by_signs Equal Less f g = by_y (λ z. absurd (cc))
      by_signs Equal Greater f g = by_y (λ z. absurd (cc))
      by_signs Equal Equal f g = absurd (different (same_by_signs K (f, g)))

  -- ---- pieces of a plane drawing

  module _ (place : ℕ → Point A) where
    pub record Ends (e : Piece) : Type 0 where
      pub tail_point : IsPoint K (place e.tail)
      pub head_point : IsPoint K (place e.head)
      pub different : ¬ IsSamePoint K (place e.tail) (place e.head)

    pub ends : (ps : List Piece) → IsPlane K place ps → (e : Piece) → Among ps e → Ends e
    ends [] h e i = elim i [ ]
    ends (f ∷ ps) h e (inl i) = subst Ends i (record { tail_point = h.0; head_point = h.1; different = h.2 })
    ends (f ∷ ps) h e (inr i) = ends ps h.4 e i

    meet_in_ends_turned : (e f : Piece) → MeetInEnds K place e f → MeetInEnds K place f e
    meet_in_ends_turned e f h x hx on_f on_e = let m : (v : ℕ) × IsEnd e v × IsEnd f v × IsSamePoint K (place v) x = h x hx on_e on_f in (m.0, m.2, m.1, m.3)

    -- two pieces are one, or meet only in common ends
    pub meet_in_ends : (ps : List Piece) → IsPlane K place ps → (e f : Piece) → Among ps e → Among ps f → (e ≡ f) ⊎ MeetInEnds K place e f
    meet_in_ends [] h e f i j = elim i [ ]
    meet_in_ends (g ∷ ps) h e f (inl i) (inl j) = inl (sym i ∙ j)
    meet_in_ends (g ∷ ps) h e f (inl i) (inr j) = inr (subst (λ e. MeetInEnds K place e f) i (h.3 f j))
    meet_in_ends (g ∷ ps) h e f (inr i) (inl j) = inr (subst (λ f. MeetInEnds K place e f) j (meet_in_ends_turned g e (h.3 e i)))
    meet_in_ends (g ∷ ps) h e f (inr i) (inr j) = meet_in_ends ps h.4 e f i j

    -- a piece has no end strictly between its ends
    pub inner_no_end : (e : Piece) → Ends e → {x : Point A} (on : OnPiece K place e x) → K.sign on.from_share ≡ Greater → K.sign on.to_share ≡ Greater → (v : ℕ) → IsEnd e v → ¬ IsSamePoint K (place v) x
    inner_no_end e n {x} on h k v (inl i) s = inner_not_first n.different on k (subst (λ v. IsSamePoint K (place v) x) (sym i) s)
    inner_no_end e n {x} on h k v (inr i) s = inner_not_second n.different on h (subst (λ v. IsSamePoint K (place v) x) (sym i) s)

    module _ (ps : List Piece) (plane : IsPlane K place ps) where
      -- another piece is parted from each segment of inner points
      pub one_or_parted : (e : Piece) → Among ps e → {m n : Point A} → Closer K (place e.tail) (place e.head) m → Closer K (place e.tail) (place e.head) n
          → (f : Piece) → Among ps f → (e ≡ f) ⊎ Parts K m n (place f.tail) (place f.head)
      one_or_parted e i {m} {n} c d f j = elim (meet_in_ends ps plane e f i j) [
        | inl same ↦ inl same
        | inr h ↦ inr (parted K (closer_point K c (ends ps plane e i).tail_point (ends ps plane e i).head_point) (closer_point K d (ends ps plane e i).tail_point (ends ps plane e i).head_point)
            (ends ps plane f j).tail_point (ends ps plane f j).head_point (ends ps plane f j).different
            (λ meet.
            let on : (on : IsOn K (place e.tail) (place e.head) meet.0) × (K.sign on.from_share ≡ Greater) × (K.sign on.to_share ≡ Greater) = inner_on c d meet.1 meet.2 in
            let v : (v : ℕ) × IsEnd e v × IsEnd f v × IsSamePoint K (place v) meet.0 = h meet.0 meet.1 on.0 meet.3 in
            inner_no_end e (ends ps plane e i) on.0 on.1 on.2 v.0 v.1 v.3))
      ]

      by_parts : {a b m n : Point A} (f : Piece) → Parts K m n (place f.tail) (place f.head) → Guard K place a b m n f
      by_parts f r = record { by = r.by; first_above = r.first_above; second_above = r.second_above; either = inr (r.tail_not, r.head_not) }

      pub directed_ends : (d : Piece) → IsDirected ps d → Ends d
      directed_ends d (inl i) = ends ps plane d i
      directed_ends d (inr i) =
          let r : Ends (reversed d) = ends ps plane (reversed d) i in
          record { tail_point = r.head_point; head_point = r.tail_point; different = λ s. r.different (same_turned K s) }

      pub guards : (d : Piece) → IsDirected ps d → {m n : Point A} → Closer K (place d.tail) (place d.head) m → Closer K (place d.tail) (place d.head) n
          → (f : Piece) → Among ps f → Guard K place (place d.tail) (place d.head) m n f
      guards d (inl i) {m} {n} c e f j = elim (one_or_parted d i c e f j) [
        | inr r ↦ by_parts f r
        | inl same ↦ subst (λ f. Guard K place (place d.tail) (place d.head) m n f) same
            (record {
              by = weight_line K;
              first_above = ap K.sign (value_weight K m) ∙ closer_point K c (ends ps plane d i).tail_point (ends ps plane d i).head_point;
              second_above = ap K.sign (value_weight K n) ∙ closer_point K e (ends ps plane d i).tail_point (ends ps plane d i).head_point;
              either = inl (equal_le (at_first K (place d.tail) (place d.head)), equal_le (at_second K (place d.tail) (place d.head)));
            })
      ]
      guards d (inr i) {m} {n} c e f j = elim (one_or_parted (reversed d) i (closer_turned c) (closer_turned e) f j) [
        | inr r ↦ by_parts f r
        | inl same ↦ subst (λ f. Guard K place (place d.tail) (place d.head) m n f) same
            (record {
              by = weight_line K;
              first_above = ap K.sign (value_weight K m) ∙ closer_point K c (directed_ends d (inr i)).tail_point (directed_ends d (inr i)).head_point;
              second_above = ap K.sign (value_weight K n) ∙ closer_point K e (directed_ends d (inr i)).tail_point (directed_ends d (inr i)).head_point;
              either = inl (equal_le (at_second K (place d.tail) (place d.head)), equal_le (at_first K (place d.tail) (place d.head)));
            })
      ]

      module _ (d : Piece) (directed : IsDirected ps d) where
        pub inner_point : {m : Point A} → Closer K (place d.tail) (place d.head) m → IsPoint K m
        inner_point c = closer_point K c (directed_ends d directed).tail_point (directed_ends d directed).head_point

        -- what is left of a piece, at any of its inner points, is one region
        pub left_one_region : {m n p q : Point A} → Closer K (place d.tail) (place d.head) m → Closer K (place d.tail) (place d.head) n
            → LeftAt K place ps (place d.tail) (place d.head) m p → LeftAt K place ps (place d.tail) (place d.head) n q → OneRegion K place ps p q
        left_one_region c e l k = strip K place ps (on_line c) (on_line e) (inner_point c) (inner_point e) (guards d directed c e) l k

        -- on the way from an inner point to a point left of the piece, some point is left at the inner point
        pub left_toward : {m t : Point A} → Closer K (place d.tail) (place d.head) m → IsPoint K t → K.sign (determinant K.ops (place d.tail) (place d.head) t) ≡ Greater
            → (c : Point A) × Closer K m t c × LeftAt K place ps (place d.tail) (place d.head) m c
        left_toward c ht left = some_left_at K place ps (on_line c) (inner_point c) ht left (guards d directed c c)

        pub some_left : {m : Point A} → Closer K (place d.tail) (place d.head) m → (c : Point A) × LeftAt K place ps (place d.tail) (place d.head) m c
        some_left {m} c =
            let r : (p : Point A) × Closer K m (beside (place d.tail) (place d.head) m) p × LeftAt K place ps (place d.tail) (place d.head) m p
            = left_toward c (inner_point c) (beside_left (place d.tail) (place d.head) m (directed_ends d directed).different (on_line c)) in
            (r.0, r.2)

        pub middle_inner : Closer K (place d.tail) (place d.head) (middle_of K place d)
        middle_inner = record {
          stay = (place d.head).w;
          go = (place d.tail).w;
          stay_gt = (directed_ends d directed).head_point;
          go_gt = (directed_ends d directed).tail_point;
          is = refl;
        }
