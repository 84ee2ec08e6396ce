-- Tracing: what lies left of the directed pieces of one walk is one region.
use Prim.Native.Nat.{ℕ}
use mathlib.Core.Path.{◌≡◌, refl, sym, ap, ◌∙◌, subst, subst₂}
use mathlib.Core.List.{List, [], ◌∷◌}
use mathlib.Core.Logic.{◌⊎◌, inl, inr}
use lib.IntN.{pos}
use native.Mathlib.Decide.{ℕ_discrete}
use Rattle.plane.specs.Lines.{value, determinant, IsAbove, line}
use Rattle.plane.proofs.Lines.{from_x, from_x_itself, from_y_itself, same_turned, same_by_lines, value_weight, value_combination, same_vector, weight_line, at_first, at_second, swapped, swapped_last, from_y}
use Rattle.std.specs.Prelude.{IsTrue}
use Rattle.std.specs.declared.cmp.Ordering.{Ordering}
use Rattle.std.specs.declared.cmp.Ordering.TheVariants.{Less, Equal, Greater}
use Rattle.std.specs.Ordering.{is_ge, is_le, ordering_reverse}
use Rattle.algebra.specs.OrderedRing.{OrderedRing}
use Rattle.plane.specs.declared.point.Point.{Point}
use Rattle.plane.specs.Points.{combination, IsPoint, IsSamePoint}
use Rattle.algebra.proofs.Solvers.{ring, reads, sign_from, known, no_sign, given, sum, product, positive, not_negative, any_sign, at_zero, sign_neg, sign_of_multiple}
use Rattle.plane.specs.Segments.{IsOn, SegmentsMeet}
use Rattle.regions.proofs.Drawings.{Piece, piece, reversed, Among, IsDirected, IsEnd, IsPlane}
use Rattle.regions.proofs.Regions.{IsClear, LeftAt, OneRegion, straight, bent}
use Rattle.plane.proofs.Signs.{greater_ge, less_le, zero_is, equal_le, equal_ge}
use Rattle.plane.proofs.OnSegments.{on_turned, meet_turned, above_on, not_above_on, some_share, above_and_not, sign_on}
use Rattle.plane.specs.declared.point.Line.{Line}
use Rattle.plane.proofs.Nearby.{Closer, halfway, closer_point, along}
use Rattle.plane.proofs.Separation.{Parts, parted_apart, parted}
use Rattle.regions.proofs.Neighbourhoods.{toward, clear_turned, shrink}
use Rattle.regions.proofs.InnerPoints.{Ends, ends, meet_in_ends, directed_ends, inner_not_first, beside, beside_left, closer_turned, left_one_region}
use Rattle.std.proofs.Common.{arith, ◌<◌}
use Rattle.regions.proofs.Walks.{part_of_turn, ComesBefore}
use Rattle.regions.proofs.Corners.{only_far, Stars, NearBy, near_by, turn}
use Rattle.regions.proofs.Directions.{directed_back, part_same, part_other, opposite_side}

module _ {A : Type 0} (K : OrderedRing A) where
  module _ (place : ℕ → Point A) (ps : List Piece) where
    -- ---- one region

    pub region_then : {p q r : Point A} → OneRegion K place ps p q → OneRegion K place ps q r → OneRegion K place ps p r
    region_then (straight hp hq c) m = bent hp c m
    region_then (bent hp c l) m = bent hp c (region_then l m)

    pub region_start : {p q : Point A} → OneRegion K place ps p q → IsPoint K p
    region_start (straight hp hq c) = hp
    region_start (bent hp c l) = hp

    clear_back : {p q : Point A} → IsClear K place ps p q → IsClear K place ps q p
    clear_back h e i m = h e i (meet_turned K m)

    pub region_back : {p q : Point A} → OneRegion K place ps p q → OneRegion K place ps q p
    region_back (straight hp hq c) = straight hq hp (clear_back c)
    region_back (bent hp c l) = region_then (region_back l) (straight (region_start l) hp (clear_back c))

  -- ---- the vertex and its pieces

  pub sum_there : (s t x r z : A) → K.add (K.mul s x) (K.mul t x) ≡ r → K.add (K.mul (K.int (pos 0)) z) (K.mul (K.add s t) x) ≡ r
  sum_there s t x r z e = ring K (s ∷ t ∷ x ∷ z ∷ []) (search reads depth 40 fits 50000) (search reads depth 40 fits 50000) tt ∙ e

  sum_greater : (s t : A) → IsTrue (is_ge (K.sign s)) → IsTrue (is_ge (K.sign t)) → (K.sign s ≡ Greater) ⊎ (K.sign t ≡ Greater) → K.sign (K.add s t) ≡ Greater
  sum_greater s t hs ht (inl h) = sign_from K (s ∷ t ∷ []) (known positive (search reads depth 40 fits 50000) h (known not_negative (search reads depth 40 fits 50000) ht no_sign)) positive (search reads depth 40 fits 50000) (sum (given 0) (given 1)) tt tt
  sum_greater s t hs ht (inr h) = sign_from K (s ∷ t ∷ []) (known not_negative (search reads depth 40 fits 50000) hs (known positive (search reads depth 40 fits 50000) h no_sign)) positive (search reads depth 40 fits 50000) (sum (given 0) (given 1)) tt tt

  -- the point v itself, as an end of a segment
  itself_on : {v x : Point A} (t : Point A) → IsOn K v v x → IsPoint K x → (on : IsOn K t v x) × (K.sign on.to_share ≡ Greater)
  itself_on {v} {x} t on hx = (
    record {
      from_share = K.int (pos 0);
      to_share = K.add on.from_share on.to_share;
      factor = on.factor;
      from_not_negative = equal_ge (K.sign_int (pos 0));
      to_not_negative = greater_ge (sum_greater on.from_share on.to_share on.from_not_negative on.to_not_negative (some_share K on hx));
      factor_positive = on.factor_positive;
      is = sym (same_vector (sum_there on.from_share on.to_share v.x (K.mul on.factor x.x) t.x (ap (λ r. r.x) (sym on.is))) (sum_there on.from_share on.to_share v.y (K.mul on.factor x.y) t.y (ap (λ r. r.y) (sym on.is)))
          (sum_there on.from_share on.to_share v.w (K.mul on.factor x.w) t.w (ap (λ r. r.w) (sym on.is))));
    },
    sum_greater on.from_share on.to_share on.from_not_negative on.to_not_negative (some_share K on hx),
  )

  module _ (place : ℕ → Point A) (ps : List Piece) (plane : IsPlane K place ps) where
    -- a piece that has no end at the vertex doesn't meet it
    vertex_off : (d : Piece) (h : IsDirected ps d) (f : Piece) → Among ps f → ¬ (f.tail ≡ d.head) → ¬ (f.head ≡ d.head) → ¬ SegmentsMeet K (place d.head) (place d.head) (place f.tail) (place f.head)
    vertex_off d (inl i) f j not_tail not_head m = elim (meet_in_ends K place ps plane d f i j) [
      | inl e ↦ not_head (ap (λ d. d.head) (sym e))
      | inr g ↦
          let on : (on : IsOn K (place d.tail) (place d.head) m.0) × (K.sign on.to_share ≡ Greater) = itself_on (place d.tail) m.2 m.1 in
          let z : (z : ℕ) × IsEnd d z × IsEnd f z × IsSamePoint K (place z) m.0 = g m.0 m.1 on.0 m.3 in
          elim z.1 [
            | inl e ↦ inner_not_first K (ends K place ps plane d i).different on.0 on.1 (subst (λ z. IsSamePoint K (place z) m.0) (sym e) z.3)
            | inr e ↦ elim z.2 [ inl k ↦ not_tail (k ∙ sym e) | inr k ↦ not_head (k ∙ sym e) ]
          ]
    ]
    vertex_off d (inr i) f j not_tail not_head m = elim (meet_in_ends K place ps plane (reversed d) f i j) [
      | inl e ↦ not_tail (ap (λ d. d.tail) (sym e))
      | inr g ↦
          let on : (on : IsOn K (place d.tail) (place d.head) m.0) × (K.sign on.to_share ≡ Greater) = itself_on (place d.tail) m.2 m.1 in
          let z : (z : ℕ) × IsEnd (reversed d) z × IsEnd f z × IsSamePoint K (place z) m.0 = g m.0 m.1 (on_turned K on.0) m.3 in
          elim z.1 [
            | inr e ↦ inner_not_first K (directed_ends K place ps plane d (inr i)).different on.0 on.1 (subst (λ z. IsSamePoint K (place z) m.0) (sym e) z.3)
            | inl e ↦ elim z.2 [ inl k ↦ not_tail (k ∙ sym e) | inr k ↦ not_head (k ∙ sym e) ]
          ]
    ]

    pub star : (d : Piece) → IsDirected ps d → Stars K place ps d.head
    star d h f i = elim (ℕ_discrete f.tail d.head) [
      | yes e ↦ record {
        by = weight_line K;
        at_vertex = ap K.sign (value_weight K (place d.head)) ∙ (directed_ends K place ps plane d h).head_point;
        either = inl (f.head, inl (subst (λ v. Among ps (piece v f.head)) e i), λ x on. subst (λ v. IsOn K (place v) (place f.head) x) e on);
      }
      | no not_tail ↦ elim (ℕ_discrete f.head d.head) [
        | yes e ↦ record {
          by = weight_line K;
          at_vertex = ap K.sign (value_weight K (place d.head)) ∙ (directed_ends K place ps plane d h).head_point;
          either = inl (f.tail, inr (subst (λ v. Among ps (piece f.tail v)) e i), λ x on. subst (λ v. IsOn K (place v) (place f.tail) x) e (on_turned K on));
        }
        | no not_head ↦
            let r : Parts K (place d.head) (place d.head) (place f.tail) (place f.head)
            = parted K (directed_ends K place ps plane d h).head_point (directed_ends K place ps plane d h).head_point (ends K place ps plane f i).tail_point (ends K place ps plane f i).head_point
            (ends K place ps plane f i).different (vertex_off d h f i not_tail not_head) in
            record { by = r.by; at_vertex = r.first_above; either = inr (r.tail_not, r.head_not) }
      ]
    ]

    -- what lies on both sides of a point that lies on no piece is one region
    pub across : {a b c e m p q : Point A} → IsPoint K m → ((f : Piece) → Among ps f → ¬ SegmentsMeet K m m (place f.tail) (place f.head))
        → LeftAt K place ps a b m p → LeftAt K place ps c e m q → OneRegion K place ps p q
    across {a} {b} {c} {e} {m} {p} {q} hm off l k =
        let by : (f : Piece) → Among ps f → Parts K m m (place f.tail) (place f.head)
        = λ f i. parted K hm hm (ends K place ps plane f i).tail_point (ends K place ps plane f i).head_point (ends K place ps plane f i).different (off f i) in
        let r : (c : Point A) × Closer K m p c × ((f : Piece) (i : Among ps f) → IsAbove K (by f i).by c) = shrink K m p ps (λ f i. (by f i).by) (λ f i. (by f i).first_above) in
        let s : (c : Point A) × Closer K m q c × ((f : Piece) (i : Among ps f) → IsAbove K (by f i).by c) = shrink K m q ps (λ f i. (by f i).by) (λ f i. (by f i).first_above) in
        let clear : IsClear K place ps r.0 s.0 = λ f i. parted_apart K (record { by = (by f i).by; first_above = r.2 f i; second_above = s.2 f i; tail_not = (by f i).tail_not; head_not = (by f i).head_not }) in
        bent l.point (toward K place ps l r.1) (bent (closer_point K r.1 hm l.point) clear (straight (closer_point K s.1 hm k.point) k.point (clear_turned K place ps (toward K place ps k s.1))))

  -- ---- beyond the vertex

  reversed_twice : (s : Ordering) → ordering_reverse (ordering_reverse s) ≡ s
  reversed_twice Less = refl
  reversed_twice Equal = refl
  reversed_twice Greater = refl

  own_reverse : (s : Ordering) → s ≡ ordering_reverse s → s ≡ Equal
  own_reverse Less h = absurd (cc)
  own_reverse Equal h = refl
  own_reverse Greater h = absurd (cc)

  -- u mirrored in v
  abbrev pub mirrored : Point A → Point A → Point A
  mirrored v u = combination K.ops (K.add u.w u.w) v (K.neg v.w) u

  pub mirrored_point : (v u : Point A) → IsPoint K v → IsPoint K u → IsPoint K (mirrored v u)
  mirrored_point v u hv hu = sign_from K (v.w ∷ u.w ∷ []) (known positive (search reads depth 40 fits 50000) hv (known positive (search reads depth 40 fits 50000) hu no_sign)) positive (search reads depth 40 fits 50000) (product (given 0) (given 1)) tt tt

  moved_sign : (w x : A) → K.mul (K.neg w) x ≡ K.mul w (K.neg x)
  moved_sign w x = ring K (w ∷ x ∷ []) (search reads depth 40 fits 50000) (search reads depth 40 fits 50000) tt

  -- a functional that is zero at v has opposite signs at u and at its mirror image
  pub mirrored_sign : (L : Line A) (v u : Point A) → IsPoint K v → K.sign (value K.ops L v) ≡ Equal → K.sign (value K.ops L (mirrored v u)) ≡ ordering_reverse (K.sign (value K.ops L u))
  mirrored_sign L v u hv h =
      ap K.sign (value_combination K L (K.add u.w u.w) (K.neg v.w) v u ∙ ap (λ z. K.add (K.mul (K.add u.w u.w) z) (K.mul (K.neg v.w) (value K.ops L u))) (zero_is K h)
      ∙ only_far K (K.add u.w u.w) (K.neg v.w) (value K.ops L u) ∙ moved_sign v.w (value K.ops L u))
      ∙ sign_of_multiple K v.w (K.neg (value K.ops L u)) hv ∙ sign_neg K (value K.ops L u)

  pub mirrored_side : (v u z : Point A) → IsPoint K v → K.sign (determinant K.ops v (mirrored v u) z) ≡ ordering_reverse (K.sign (determinant K.ops v u z))
  mirrored_side v u z hv =
      swapped_last K v z (mirrored v u) ∙ ap ordering_reverse (mirrored_sign (line K.ops v z) v u hv (at_first K v z)) ∙ reversed_twice (K.sign (determinant K.ops v z u)) ∙ swapped_last K v u z

  same_at : (L : Line A) {m x : Point A} → IsOn K m m x → IsPoint K x → K.sign (value K.ops L x) ≡ K.sign (value K.ops L m)
  same_at L {m} {x} on hx =
      sym (sign_on K L on) ∙ ap K.sign (gathered on.from_share on.to_share (value K.ops L m)) ∙ sign_of_multiple K (K.add on.from_share on.to_share) (value K.ops L m) (sum_greater on.from_share on.to_share on.from_not_negative on.to_not_negative (some_share K on hx))
    where
      gathered : (s t y : A) → K.add (K.mul s y) (K.mul t y) ≡ K.mul (K.add s t) y
      gathered s t y = ring K (s ∷ t ∷ y ∷ []) (search reads depth 40 fits 50000) (search reads depth 40 fits 50000) tt

  pub far_alone : (s t x y : A) → K.sign x ≡ Equal → K.sign t ≡ Greater → K.sign (K.add (K.mul s x) (K.mul t y)) ≡ K.sign y
  far_alone s t x y hx ht = ap K.sign (ap (λ z. K.add (K.mul s z) (K.mul t y)) (zero_is K hx) ∙ only_far K s t y) ∙ sign_of_multiple K t y ht

  neither : (s t x y : A) → K.sign x ≡ Equal → K.sign t ≡ Equal → K.sign (K.add (K.mul s x) (K.mul t y)) ≡ Equal
  neither s t x y hx ht =
      sign_from K (s ∷ t ∷ x ∷ y ∷ []) (known at_zero (search reads depth 40 fits 50000) hx (known at_zero (search reads depth 40 fits 50000) ht (known any_sign {a = s} (search reads depth 40 fits 50000) tt (known any_sign {a = y} (search reads depth 40 fits 50000) tt no_sign))))
      at_zero (search reads depth 40 fits 50000) (sum (product (given 2) (given 0)) (product (given 1) (given 3))) tt tt

  zero_or_greater : (s : Ordering) → IsTrue (is_ge s) → (s ≡ Equal) ⊎ (s ≡ Greater)
  zero_or_greater Less h = absurd (cc)
  zero_or_greater Equal h = inl refl
  zero_or_greater Greater h = inr refl

  -- a functional that is zero at v, at points of two rays from v
  module _ (L : Line A) {v u m x : Point A} (hv : IsPoint K v) (zero : K.sign (value K.ops L v) ≡ Equal) (near_m : Closer K v (mirrored v u) m) (at_m : IsOn K m m x) (hx : IsPoint K x) where
    sign_there : K.sign (value K.ops L x) ≡ ordering_reverse (K.sign (value K.ops L u))
    sign_there = same_at L at_m hx ∙ along K L zero near_m ∙ mirrored_sign L v u hv zero

    zero_there : {y : Point A} (on : IsOn K v y x) → K.sign on.to_share ≡ Equal → K.sign (value K.ops L u) ≡ Equal
    zero_there {y} on h = own_reverse (K.sign (value K.ops L u)) (let e : ordering_reverse (K.sign (value K.ops L u)) ≡ Equal = sym sign_there ∙ sym (sign_on K L on) ∙ neither on.from_share on.to_share (value K.ops L v) (value K.ops L y) zero h in twice (K.sign (value K.ops L u)) e)
      where
        twice : (s : Ordering) → ordering_reverse s ≡ Equal → s ≡ ordering_reverse s
        twice Less e = absurd (cc)
        twice Equal e = refl
        twice Greater e = absurd (cc)

    zero_behind : (on : IsOn K v u x) → K.sign on.to_share ≡ Greater → K.sign (value K.ops L u) ≡ Equal
    zero_behind on h = own_reverse (K.sign (value K.ops L u)) (sym (far_alone on.from_share on.to_share (value K.ops L v) (value K.ops L u) zero h) ∙ sign_on K L on ∙ sign_there)

  module _ (place : ℕ → Point A) (ps : List Piece) (plane : IsPlane K place ps) (v u w : ℕ) (hd : IsDirected ps (piece u v)) (he : IsDirected ps (piece v w))
      (follows : (x : ℕ) → IsDirected ps (piece v x) → ¬ ComesBefore K place v u x w) where
    abbrev V : Point A
    V = place v

    abbrev U : Point A
    U = place u

    abbrev W : Point A
    W = place w

    hu : IsDirected ps (piece v u)
    hu = directed_back ps (piece u v) hd

    from : Ends K place (piece u v)
    from = directed_ends K place ps plane (piece u v) hd

    to : Ends K place (piece v w)
    to = directed_ends K place ps plane (piece v w) he

    stars : Stars K place ps v
    stars = star place ps plane (piece u v) hd

    -- directions right of vu, opposite to it and left of it
    right_part : (y : ℕ) → K.sign (determinant K.ops V U (place y)) ≡ Less → part_of_turn K place v u y ≡ 0
    right_part y h = part_other K place v u y Less (λ e. let z : K.sign (determinant K.ops V U (place y)) ≡ Equal = subst (λ y. K.sign (determinant K.ops V U (place y)) ≡ Equal) (sym e) (at_second K V U) in absurd (cc)) h

    left_part : (y : ℕ) → K.sign (determinant K.ops V U (place y)) ≡ Greater → part_of_turn K place v u y ≡ 2
    left_part y h = part_other K place v u y Greater (λ e. let z : K.sign (determinant K.ops V U (place y)) ≡ Equal = subst (λ y. K.sign (determinant K.ops V U (place y)) ≡ Equal) (sym e) (at_second K V U) in absurd (cc)) h

    earlier : (y : ℕ) (a b : ℕ) → IsDirected ps (piece v y) → part_of_turn K place v u y ≡ a → part_of_turn K place v u w ≡ b → a < b → ⊥
    earlier y a b hy ey ew h = follows y hy (inl (subst₂ (λ a b. a < b) (sym ey) (sym ew) h))

    beside_part : (y : ℕ) (a : ℕ) → IsDirected ps (piece v y) → part_of_turn K place v u y ≡ a → part_of_turn K place v u w ≡ a → K.sign (determinant K.ops V W (place y)) ≡ Greater → ⊥
    beside_part y a hy ey ew h = follows y hy (inr (ey ∙ sym ew, swapped_last K V W (place y) ∙ ap ordering_reverse h))

    near_u : (m : Point A) × NearBy K place ps v stars U m
    near_u = near_by K place ps v stars U

    near_w : (m : Point A) × NearBy K place ps v stars W m
    near_w = near_by K place ps v stars W

    -- what is left of the piece to the vertex, and of the piece from it, near the vertex, is one region
    abbrev Traced : Type 0
    Traced = (p : Point A) × (q : Point A) × LeftAt K place ps U V near_u.0 p × LeftAt K place ps V W near_w.0 q × OneRegion K place ps p q

    hv : IsPoint K V
    hv = from.head_point

    halfway_point : (a b : Point A) → IsPoint K a → IsPoint K b → IsPoint K (combination K.ops (K.int (pos 1)) a (K.int (pos 1)) b)
    halfway_point a b ha hb = closer_point K (halfway K a b) ha hb

    -- less than half a turn
    sharp : K.sign (determinant K.ops V U W) ≡ Less → Traced
    sharp h =
        let r : (p : Point A) × LeftAt K place ps U V near_u.0 p × LeftAt K place ps V W near_w.0 p
        = turn K place ps v stars {a = U} {b = W} {c = combination K.ops (K.int (pos 1)) U (K.int (pos 1)) W}
        (along K (line K.ops V U) (at_second K V U) (halfway K U W) ∙ h)
        (along K (line K.ops V W) (at_second K V W) (closer_turned K (halfway K U W)) ∙ swapped_last K V U W ∙ ap ordering_reverse h)
        (less_le h)
        (λ y hy uy wy. beside_part y 0 hy (right_part y uy) (right_part w h) wy)
        hv (halfway_point U W from.tail_point to.head_point) near_u.1 near_w.1 in
        (r.0, r.0, r.1, r.2, left_one_region K place ps plane (piece u v) hd (closer_turned K near_u.1.closer) (closer_turned K near_u.1.closer) r.1 r.1)

    -- the points beside the vertex, right of vu and left of it
    right_beside : Point A
    right_beside = beside K U V V

    right_beside_less : K.sign (determinant K.ops V U right_beside) ≡ Less
    unfolding right_beside
    right_beside_less = swapped K U V right_beside ∙ ap ordering_reverse (beside_left K U V V from.different (zero_is K (at_second K U V)))

    right_beside_point : IsPoint K right_beside
    unfolding right_beside
    right_beside_point = hv

    left_beside : Point A
    left_beside = beside K V U V

    left_beside_greater : K.sign (determinant K.ops V U left_beside) ≡ Greater
    unfolding left_beside
    left_beside_greater = beside_left K V U V (λ s. from.different (same_turned K s)) (zero_is K (at_first K V U))

    left_beside_point : IsPoint K left_beside
    unfolding left_beside
    left_beside_point = hv

    -- half a turn
    straight_on : ¬ (w ≡ u) → K.sign (determinant K.ops V U W) ≡ Equal → Traced
    straight_on n h =
        let r : (p : Point A) × LeftAt K place ps U V near_u.0 p × LeftAt K place ps V W near_w.0 p
        = turn K place ps v stars {a = U} {b = W} {c = right_beside}
        right_beside_less
        (opposite_side K place ps plane v u w hu he (λ e. n (sym e)) h right_beside right_beside_less right_beside ∙ ap ordering_reverse right_beside_less)
        (equal_le h)
        (λ y hy uy wy. earlier y 0 1 hy (right_part y uy) (part_other K place v u w Equal n h) (omega arith))
        hv right_beside_point near_u.1 near_w.1 in
        (r.0, r.0, r.1, r.2, left_one_region K place ps plane (piece u v) hd (closer_turned K near_u.1.closer) (closer_turned K near_u.1.closer) r.1 r.1)

    -- more than half a turn: to the ray opposite to vu, across it, and on
    abbrev X : Point A
    X = mirrored V U

    near_x : (m : Point A) × NearBy K place ps v stars X m
    near_x = near_by K place ps v stars X

    hx : IsPoint K X
    hx = mirrored_point V U hv from.tail_point

    -- no piece at the vertex leads along that ray
    module _ (b : ℕ) (part_w : part_of_turn K place v u w ≡ b) (late : 1 < b) where
      ray_off : (f : Piece) → Among ps f → ¬ SegmentsMeet K near_x.0 near_x.0 (place f.tail) (place f.head)
      ray_off f i meet = elim (stars f i).either [
        | inr g ↦ above_and_not K (stars f i).by (above_on K (stars f i).by meet.2 meet.1 (near_x.1.above f i) (near_x.1.above f i)) (not_above_on K (stars f i).by meet.3 g.0 g.1)
        | inl g ↦ by_far g.0 g.1 (g.2 meet.0 meet.3)
      ]
        where
          by_far : (y : ℕ) → IsDirected ps (piece v y) → IsOn K V (place y) meet.0 → ⊥
          by_far y hy on = elim (zero_or_greater (K.sign on.to_share) on.to_not_negative) [
            | inl z ↦ from.different (same_turned K (same_by_lines K (
              zero_there (from_x K V) {v = V} {u = U} hv (from_x_itself K V) near_x.1.closer meet.2 meet.1 on z,
              zero_there (from_y K V) {v = V} {u = U} hv (from_y_itself K V) near_x.1.closer meet.2 meet.1 on z,
            )))
            | inr g ↦ elim (ℕ_discrete y u) [
              | yes e ↦
                  let on_u : (on : IsOn K V U meet.0) × (K.sign on.to_share ≡ Greater) = subst (λ y. (on : IsOn K V (place y) meet.0) × (K.sign on.to_share ≡ Greater)) e (on, g) in
                  from.different (same_turned K (same_by_lines K (
                    zero_behind (from_x K V) {v = V} {u = U} hv (from_x_itself K V) near_x.1.closer meet.2 meet.1 on_u.0 on_u.1,
                    zero_behind (from_y K V) {v = V} {u = U} hv (from_y_itself K V) near_x.1.closer meet.2 meet.1 on_u.0 on_u.1,
                  )))
              | no n ↦
                  let in_line : K.sign (determinant K.ops V U (place y)) ≡ Equal
                  = sym (far_alone on.from_share on.to_share (determinant K.ops V U V) (determinant K.ops V U (place y)) (at_first K V U) g) ∙ sign_on K (line K.ops V U) on
                  ∙ sign_there (line K.ops V U) {v = V} {u = U} hv (at_first K V U) near_x.1.closer meet.2 meet.1 ∙ ap ordering_reverse (at_second K V U) in
                  earlier y 1 b hy (part_other K place v u y Equal n in_line) part_w late
            ]
          ]

      reflex : IsTrue (is_ge (K.sign (determinant K.ops V U W))) → (c : Point A) → IsPoint K c → K.sign (determinant K.ops V U c) ≡ Greater → K.sign (determinant K.ops V W c) ≡ Greater
          → ((y : ℕ) → IsDirected ps (piece v y) → K.sign (determinant K.ops V U (place y)) ≡ Greater → K.sign (determinant K.ops V W (place y)) ≡ Greater → ⊥) → Traced
      reflex h c hc uc wc empty =
          let r : (p : Point A) × LeftAt K place ps U V near_u.0 p × LeftAt K place ps V X near_x.0 p
          = turn K place ps v stars {a = U} {b = X} {c = right_beside}
          right_beside_less
          (mirrored_side V U right_beside hv ∙ ap ordering_reverse right_beside_less)
          (equal_le (swapped_last K V X U ∙ ap ordering_reverse (mirrored_side V U U hv ∙ ap ordering_reverse (at_second K V U))))
          (λ y hy uy xy. earlier y 0 b hy (right_part y uy) part_w (omega arith))
          hv right_beside_point near_u.1 near_x.1 in
          let s : (p : Point A) × LeftAt K place ps X V near_x.0 p × LeftAt K place ps V W near_w.0 p
          = turn K place ps v stars {a = X} {b = W} {c = c}
          (mirrored_side V U c hv ∙ ap ordering_reverse uc)
          wc
          (subst (λ s. IsTrue (is_le s)) (sym (mirrored_side V U W hv)) (reversed_le (K.sign (determinant K.ops V U W)) h))
          (λ y hy xy wy. empty y hy (reversed_less (K.sign (determinant K.ops V U (place y))) (sym (mirrored_side V U (place y) hv) ∙ xy)) wy)
          hv hc near_x.1 near_w.1 in
          (r.0, s.0, r.1, s.2, across place ps plane (closer_point K near_x.1.closer hv hx) ray_off r.2 s.1)
        where
          reversed_le : (s : Ordering) → IsTrue (is_ge s) → IsTrue (is_le (ordering_reverse s))
          reversed_le Less h = h
          reversed_le Equal h = refl
          reversed_le Greater h = refl

          reversed_less : (s : Ordering) → ordering_reverse s ≡ Less → s ≡ Greater
          reversed_less Less e = absurd (cc)
          reversed_less Equal e = absurd (cc)
          reversed_less Greater e = refl

    full : w ≡ u → Traced
    full e =
        reflex 3 (part_same K place v u w e) (omega arith) (subst (λ w. IsTrue (is_ge (K.sign (determinant K.ops V U (place w))))) (sym e) (equal_ge (at_second K V U)))
        left_beside left_beside_point left_beside_greater (subst (λ w. K.sign (determinant K.ops V (place w) left_beside) ≡ Greater) (sym e) left_beside_greater)
        (λ y hy uy wy. earlier y 2 3 hy (left_part y uy) (part_same K place v u w e) (omega arith))

    wide : K.sign (determinant K.ops V U W) ≡ Greater → Traced
    wide h =
        let xw : K.sign (determinant K.ops V X W) ≡ Less = mirrored_side V U W hv ∙ ap ordering_reverse h in
        reflex 2 (left_part w h) (omega arith) (greater_ge h)
        (combination K.ops (K.int (pos 1)) X (K.int (pos 1)) W) (halfway_point X W hx to.head_point)
        (reversed_less (K.sign (determinant K.ops V U (combination K.ops (K.int (pos 1)) X (K.int (pos 1)) W)))
        (sym (mirrored_side V U (combination K.ops (K.int (pos 1)) X (K.int (pos 1)) W) hv) ∙ along K (line K.ops V X) (at_second K V X) (halfway K X W) ∙ xw))
        (along K (line K.ops V W) (at_second K V W) (closer_turned K (halfway K X W)) ∙ swapped_last K V X W ∙ ap ordering_reverse xw)
        (λ y hy uy wy. beside_part y 2 hy (left_part y uy) (left_part w h) wy)
      where
        reversed_less : (s : Ordering) → ordering_reverse s ≡ Less → s ≡ Greater
        reversed_less Less e = absurd (cc)
        reversed_less Equal e = absurd (cc)
        reversed_less Greater e = refl

    traced : Traced
    traced = elim (ℕ_discrete w u) [
      | yes e ↦ full e
      | no n ↦ by_sign n (K.sign (determinant K.ops V U W)) refl
    ]
      where
        by_sign : ¬ (w ≡ u) → (s : Ordering) → K.sign (determinant K.ops V U W) ≡ s → Traced
        by_sign n Less h = sharp h
        by_sign n Equal h = straight_on n h
        by_sign n Greater h = wide h

    -- what is left of a piece and of the next one of its walk is one region
    pub corner : {m n p q : Point A} → Closer K U V m → Closer K V W n → LeftAt K place ps U V m p → LeftAt K place ps V W n q → OneRegion K place ps p q
    corner c e l k =
        region_then place ps (left_one_region K place ps plane (piece u v) hd c (closer_turned K near_u.1.closer) l traced.2)
        (region_then place ps traced.4 (left_one_region K place ps plane (piece v w) he near_w.1.closer e traced.3 k))
