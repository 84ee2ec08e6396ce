-- No vertex is too wide to write over the rationals, nor where the coordinates are narrow.
use Rattle.std.proofs.Common.{◌≡◌, ◌∙◌, ◌⊎◌, ◌≤◌, ◌*◌, ◌^◌, ℕ, ap, arith, inl, inr, refl, subst, sym}
use mathlib.Core.List.{[], ◌∷◌}
use Rattle.std.proofs.lemmas.Int.{ints}
use Rattle.std.specs.Prelude.{ℤ, pos, ◌+ℤ◌, ◌-ℤ◌, ◌*ℤ◌, ◌<ℤ◌, ◌≤ℤ◌, List, Contains, None, filter, slice_index_or}
use lib.IntN.{neg_ℤ}
use Rattle.std.specs.declared.cmp.Ordering.{Ordering}
use Rattle.std.specs.declared.cmp.Ordering.TheVariants.{Less, Equal, Greater}
use Rattle.algebra.specs.Integers.{int_ops}
use Rattle.algebra.specs.LowestTerms.{Parts, IsReduced}
use Rattle.algebra.specs.Surd.{Surd, surd_mul}
use Rattle.algebra.specs.SurdSize.{larger_part}
use Rattle.algebra.specs.WholeSurds.{HoldsSurds, SurdNumbers}
use Rattle.algebra.proofs.Integers.{integers}
use Rattle.algebra.proofs.Solvers.{multiple, no_equation, reads_integers, ring_from}
use Rattle.exact_number.specs.Scaling.{scaled}
use Rattle.exact_number.specs.Sizes.{whole_size}
use Rattle.plane.specs.declared.point.Point.{Point}
use Rattle.plane.specs.Lines.{crossing}
use Rattle.plane.specs.Points.{IsPoint, IsSamePoint, origin}
use Rattle.plane.proofs.Crossings.{on_lines_crossing}
use Rattle.plane.proofs.Shares.{side_of_on}
use Rattle.scaled_plane.specs.declared.drawing.Edge.{Edge}
use Rattle.scaled_plane.specs.declared.drawing.Ends.{Ends}
use Rattle.scaled_plane.specs.declared.point.Scaled.{Scaled}
use Rattle.scaled_plane.specs.declared.point.Segment.{Segment}
use Rattle.scaled_plane.specs.Drawn.{IsDrawn, IsDrawnWithin, IsScaledWithin}
use Rattle.scaled_plane.specs.Exact.{IsConjugate, IsNarrow, IsQuotient, IsTooWideExact}
use Rattle.scaled_plane.specs.Pieces.{IsEndOfOne, IsCut, IsVertex}
use Rattle.scaled_plane.specs.Scaling.{IsScaledOf, IsScaledWith}
use Rattle.scaled_plane.proofs.Conjugates.{conjugate_is, opposite_is, other_positive, product_rational}
use Rattle.scaled_plane.proofs.DrawnSizes.{drawn_point, drawn_size, small_size}
use Rattle.scaled_plane.proofs.Quotients.{over, rational_some, small_some}
use Rattle.scaled_plane.proofs.Widths.{one_denominator}
use Rattle.arrangement.proofs.Listed.{seen_in}
use Rattle.arrangement.proofs.Zipped.{in_of_place, of_second}
use Rattle.drawing_repair.specs.Kept.{is_kept, kept_segments, segment_of}
use Rattle.drawing_repair.specs.Narrow.{AreNarrow}
use Rattle.drawing_repair.specs.Repaired.{IsRefusal}
use Rattle.drawing_repair.specs.declared.answer.RepairFault.TheVariants.{TooWide}
use Rattle.drawing_repair.specs.declared.answer.Stage.TheVariants.{Drawn}
use Rattle.drawing_repair.specs.declared.options.Faces.{Faces}
use Rattle.drawing_repair.specs.declared.options.Flat.{Flat}
use Rattle.drawing_repair.proofs.OneDrawing.{all_at}
use Rattle.drawing_repair.proofs.Quotients.{quotient_moved}

-- ---- what x / (w c) is in lowest terms, x u / (m c) is, where w u is m

module _ (k x1 x2 w1 w2 u1 u2 m c ra rb q : ℤ)
    (in_a : ra *ℤ (w1 *ℤ c) +ℤ k *ℤ (rb *ℤ (w2 *ℤ c)) ≡ x1 *ℤ q +ℤ k *ℤ (x2 *ℤ pos 0))
    (in_b : ra *ℤ (w2 *ℤ c) +ℤ rb *ℤ (w1 *ℤ c) ≡ x1 *ℤ pos 0 +ℤ x2 *ℤ q)
    (norm : w1 *ℤ u1 +ℤ k *ℤ (w2 *ℤ u2) ≡ m) (no_root : w1 *ℤ u2 +ℤ w2 *ℤ u1 ≡ pos 0) where
  first_part : (x1 *ℤ u1 +ℤ k *ℤ (x2 *ℤ u2)) *ℤ q ≡ ra *ℤ (m *ℤ c)
  first_part =
      ring_from integers (k ∷ x1 ∷ x2 ∷ w1 ∷ w2 ∷ u1 ∷ u2 ∷ m ∷ c ∷ ra ∷ rb ∷ q ∷ [])
      (multiple (neg_ℤ u1) (search reads_integers depth 40 fits 50000) (search reads_integers depth 40 fits 50000) (search reads_integers depth 40 fits 50000) in_a
      (multiple (neg_ℤ (k *ℤ u2)) (search reads_integers depth 40 fits 50000) (search reads_integers depth 40 fits 50000) (search reads_integers depth 40 fits 50000) in_b
      (multiple (ra *ℤ c) (search reads_integers depth 40 fits 50000) (search reads_integers depth 40 fits 50000) (search reads_integers depth 40 fits 50000) norm
      (multiple (k *ℤ (rb *ℤ c)) (search reads_integers depth 40 fits 50000) (search reads_integers depth 40 fits 50000) (search reads_integers depth 40 fits 50000) no_root no_equation))))
      (search reads_integers depth 40 fits 50000) (search reads_integers depth 40 fits 50000) tt

  second_part : (x1 *ℤ u2 +ℤ x2 *ℤ u1) *ℤ q ≡ rb *ℤ (m *ℤ c)
  second_part =
      ring_from integers (k ∷ x1 ∷ x2 ∷ w1 ∷ w2 ∷ u1 ∷ u2 ∷ m ∷ c ∷ ra ∷ rb ∷ q ∷ [])
      (multiple (neg_ℤ u2) (search reads_integers depth 40 fits 50000) (search reads_integers depth 40 fits 50000) (search reads_integers depth 40 fits 50000) in_a
      (multiple (neg_ℤ u1) (search reads_integers depth 40 fits 50000) (search reads_integers depth 40 fits 50000) (search reads_integers depth 40 fits 50000) in_b
      (multiple (rb *ℤ c) (search reads_integers depth 40 fits 50000) (search reads_integers depth 40 fits 50000) (search reads_integers depth 40 fits 50000) norm
      (multiple (ra *ℤ c) (search reads_integers depth 40 fits 50000) (search reads_integers depth 40 fits 50000) (search reads_integers depth 40 fits 50000) no_root no_equation))))
      (search reads_integers depth 40 fits 50000) (search reads_integers depth 40 fits 50000) tt

reduced_quotient : (k : ℕ) (x w u : Surd ℤ) (m c : ℤ) (r : Parts) → surd_mul int_ops (pos k) w u ≡ record { a = m; b = pos 0 }
    → IsQuotient k x w c r → IsReduced (over (surd_mul int_ops (pos k) x u) (m *ℤ c)) r
reduced_quotient k x w u m c r e h =
    let norm = ap (λ (y : Surd ℤ). y.a) e in
    let no_root = ap (λ (y : Surd ℤ). y.b) e in
    let in_a = ap (λ (y : Surd ℤ). y.a) h.fraction in
    let in_b = ap (λ (y : Surd ℤ). y.b) h.fraction in
    record {
      lowest = h.lowest;
      same = record {
        rational = first_part (pos k) x.a x.b w.a w.b u.a u.b m c r.a r.b r.q in_a in_b norm no_root;
        irrational = second_part (pos k) x.a x.b w.a w.b u.a u.b m c r.a r.b r.q in_a in_b norm no_root;
      };
    }

module _ {W : Type 0} {k : ℕ} {surd : W → Surd ℤ} (numbers : SurdNumbers k surd) (holds : HoldsSurds k surd) where
  -- a number above zero has a conjugate above zero, up to the sign
  conjugate : (w : W) → numbers.sign w ≡ Greater → (u : W) × (numbers.sign u ≡ Greater) × IsConjugate (surd w) (surd u)
  conjugate w above = at (numbers.sign u) refl
    where
      a : ℤ
      a = (surd w).a

      b : ℤ
      b = (surd w).b

      no_root : k ≡ 1 → pos 0 -ℤ b ≡ pos 0
      no_root e = let zero : b ≡ pos 0 = holds.rational w e in omega (arith, ints, zero)

      u : W
      u = holds.make (record { a = a; b = pos 0 -ℤ b }) no_root

      v : W
      v = holds.make (record { a = pos 0 -ℤ a; b = b }) (holds.rational w)

      u_is : surd u ≡ record { a = a; b = pos 0 -ℤ b }
      u_is = holds.surd_make (record { a = a; b = pos 0 -ℤ b }) no_root

      v_is : surd v ≡ record { a = pos 0 -ℤ a; b = b }
      v_is = holds.surd_make (record { a = pos 0 -ℤ a; b = b }) (holds.rational w)

      other : (numbers.sign u ≡ Less) ⊎ (numbers.sign u ≡ Equal) → (u : W) × (numbers.sign u ≡ Greater) × IsConjugate (surd w) (surd u)
      other not_above = (v, other_positive numbers holds w u v a b above refl u_is v_is not_above, opposite_is a b (surd w) (surd v) refl v_is)

      at : (o : Ordering) → numbers.sign u ≡ o → (u : W) × (numbers.sign u ≡ Greater) × IsConjugate (surd w) (surd u)
      at Less e = other (inl e)
      at Equal e = other (inr e)
      at Greater e = (u, e, conjugate_is a b (surd w) (surd u) refl u_is)

  module _ (x w : W) (c : ℤ) (r : Parts) (above : numbers.sign w ≡ Greater) (positive : pos 0 <ℤ c) (h : IsQuotient k (surd x) (surd w) c r) where
    abbrev u : W
    u = (conjugate w above).0

    abbrev m : ℤ
    m = (surd (numbers.mul w u)).a

    product_is : numbers.mul w u ≡ numbers.int m
    product_is = product_rational numbers holds w u m (surd (numbers.mul w u)).b (conjugate w above).2 refl

    reduced : IsReduced (over (surd (numbers.mul x u)) (m *ℤ c)) r
    reduced =
        subst (λ (y : Surd ℤ). IsReduced (over y (m *ℤ c)) r) (sym (numbers.product_is x u))
        (reduced_quotient k (surd x) (surd w) (surd u) m c r (sym (numbers.product_is w u) ∙ ap surd product_is ∙ numbers.whole_is m) h)

    -- a quotient of small numbers is narrow
    pub small_quotient : k ≤ 3 → whole_size (surd x) ≤ 27 * 2 ^ 48 → whole_size (surd w) ≤ 9 * 2 ^ 33 → c ≤ℤ pos (2 ^ 12) → ¬ ¬ IsNarrow r
    small_quotient at_most_three small_x small_w within wide =
        let some = small_some numbers (λ (p : Parts). p) x w u m c above (conjugate w above).1 product_is positive
        at_most_three (conjugate w above).2.same_size small_x small_w within None (r, reduced, wide) in cc

    -- and each quotient of drawn numbers without a root
    pub rational_quotient : k ≡ 1 → whole_size (surd x) ≤ 27 * 2 ^ 69 → whole_size (surd w) ≤ 9 * 2 ^ 47 → c ≤ℤ pos (2 ^ 24) → ¬ ¬ IsNarrow r
    rational_quotient one small_x small_w within wide =
        let some = rational_some numbers (λ (p : Parts). p) x w u m c above (conjugate w above).1 product_is positive
        holds one small_x small_w within None (r, reduced, wide) in cc

  -- ---- a point that is drawn, perhaps as another vector

  module _ (at_most_three : k ≤ 3) (common : ℤ) (positive : pos 0 <ℤ common) (p q : Point W) (hp : IsPoint numbers.ring p) (same : IsSamePoint numbers.ring p q) where
    pub small_written : IsDrawnWithin numbers (2 ^ 15) q → common ≤ℤ pos (2 ^ 12) → ¬ IsTooWideExact k surd p common
    small_written drawn within wide =
        let hq = drawn_point numbers q drawn in
        let sizes = small_size numbers at_most_three q drawn in
        elim wide.1 [
          | inl of_x ↦ small_quotient q.x q.w common wide.0 hq positive (quotient_moved numbers common positive p.x p.w q.x q.w wide.0 hp hq same.same_x of_x) at_most_three sizes.x_within sizes.w_within within wide.2
          | inr of_y ↦ small_quotient q.y q.w common wide.0 hq positive (quotient_moved numbers common positive p.y p.w q.y q.w wide.0 hp hq same.same_y of_y) at_most_three sizes.y_within sizes.w_within within wide.2
        ]

    pub rational_written : k ≡ 1 → IsDrawn numbers q → common ≤ℤ pos (2 ^ 24) → ¬ IsTooWideExact k surd p common
    rational_written one drawn within wide =
        let hq = drawn_point numbers q drawn in
        let sizes = drawn_size numbers at_most_three q drawn in
        elim wide.1 [
          | inl of_x ↦ rational_quotient q.x q.w common wide.0 hq positive (quotient_moved numbers common positive p.x p.w q.x q.w wide.0 hp hq same.same_x of_x) one sizes.x_within sizes.w_within within wide.2
          | inr of_y ↦ rational_quotient q.y q.w common wide.0 hq positive (quotient_moved numbers common positive p.y p.w q.y q.w wide.0 hp hq same.same_y of_y) one sizes.y_within sizes.w_within within wide.2
        ]

-- ---- vertices are drawn

module _ {W : Type 0} {k : ℕ} {surd : W → Surd ℤ} (numbers : SurdNumbers k surd) (n : ℕ) where
  -- the point is drawn within n, perhaps as another vector
  abbrev IsSeenWithin : Point W → Type 0
  IsSeenWithin p = (q : Point W) × IsDrawnWithin numbers n q × IsSamePoint numbers.ring p q

  module _ (segments : List (Segment W)) (ends : (s : Segment W) → Contains segments s → IsScaledWithin numbers n s.from × IsScaledWithin numbers n s.to) where
    seen_end : (p : Point W) → IsEndOfOne numbers.ring segments p → IsSeenWithin p
    seen_end p (s, there, proper, inl same) = (s.from, inl (ends s there).0, same)
    seen_end p (s, there, proper, inr same) = (s.to, inl (ends s there).1, same)

    seen_cut : (p : Point W) → IsCut numbers.ring segments p → IsSeenWithin p
    seen_cut p (s, t, s_there, t_there, s_proper, t_proper, across, common) = (
      crossing numbers.ring s.from s.to t.from t.to,
      inr (record {
        a = s.from;
        b = s.to;
        c = t.from;
        d = t.to;
        a_scaled = (ends s s_there).0;
        b_scaled = (ends s s_there).1;
        c_scaled = (ends t t_there).0;
        d_scaled = (ends t t_there).1;
        not_parallel = across;
        is = refl;
      }),
      on_lines_crossing numbers.ring s.from s.to t.from t.to p (side_of_on numbers.ring common.0) (side_of_on numbers.ring common.1),
    )

    seen_vertex : (p : Point W) → IsVertex numbers.ring segments p → IsSeenWithin p
    seen_vertex p (hp, inl end) = seen_end p end
    seen_vertex p (hp, inr cut) = seen_cut p cut

  scaled_origin : IsScaledWithin numbers n (origin numbers.ops)
  scaled_origin =
      let none : larger_part (surd (numbers.int (pos 0))) ≤ n = subst (λ (z : Surd ℤ). larger_part z ≤ n) (sym (numbers.whole_is (pos 0))) (omega arith) in
      record { whole = refl; x_within = none; y_within = none }

  -- the ends of what is kept are the points that were scaled
  kept_within : (points : List (Point W)) → ((p : Point W) → Contains points p → IsScaledWithin numbers n p) → (flat : Flat) (edges : List Edge)
      → (s : Segment W) → Contains (kept_segments numbers.ring points flat edges) s → IsScaledWithin numbers n s.from × IsScaledWithin numbers n s.to
  kept_within points all flat edges s there =
      let found = seen_in (segment_of numbers.ring points) (filter (λ (e : Edge). is_kept flat e.letter) edges) s there in
      let point : (v : ℕ) → IsScaledWithin numbers n (slice_index_or points v (origin numbers.ops)) = all_at (IsScaledWithin numbers n) points (origin numbers.ops) all scaled_origin in
      subst (λ (t : Segment W). IsScaledWithin numbers n t.from × IsScaledWithin numbers n t.to) found.2 (point (found.0).from, point (found.0).to)

module _ {N W : Type 0} {k : ℕ} {surd : W → Surd ℤ} (parts : N → Parts) (numbers : SurdNumbers k surd) (holds : HoldsSurds k surd) (at_most_three : k ≤ 3)
    (flat : Flat) (ends : Ends N) (faces : Faces) (v : ℕ) where
  scaled_narrow : AreNarrow parts ends.coords → (scaled : Scaled W) → IsScaledOf parts numbers ends.coords scaled → (p : Point W) → Contains scaled.points p → IsScaledWithin numbers (2 ^ 15) p
  scaled_narrow narrow s of p there =
      let c = of_second (IsScaledWith parts numbers (pos of.m)) ends.coords s.points of.points p there in
      let m_is : narrow.m ≡ of.m = one_denominator parts ends.coords narrow.m of.m narrow.denominator of.denominator in
      record {
        whole = c.2.w;
        x_within = subst (λ (z : Surd ℤ). larger_part z ≤ 2 ^ 15) (sym c.2.x) (subst (λ (m : ℕ). larger_part (scaled (parts (c.0).x) (pos m)) ≤ 2 ^ 15) m_is (narrow.x_within c.0 c.1));
        y_within = subst (λ (z : Surd ℤ). larger_part z ≤ 2 ^ 15) (sym c.2.y) (subst (λ (m : ℕ). larger_part (scaled (parts (c.0).y) (pos m)) ≤ 2 ^ 15) m_is (narrow.y_within c.0 c.1));
      }

  scaled_plain : (scaled : Scaled W) → IsScaledOf parts numbers ends.coords scaled → (p : Point W) → Contains scaled.points p → IsScaledWithin numbers (2 ^ 22) p
  scaled_plain s of p there =
      let c = of_second (IsScaledWith parts numbers (pos of.m)) ends.coords s.points of.points p there in
      record { whole = c.2.w; x_within = c.2.x_within; y_within = c.2.y_within }

  pub narrow_vertices : AreNarrow parts ends.coords → ¬ IsRefusal parts numbers flat ends faces (TooWide v Drawn)
  narrow_vertices narrow (s, vertices, cut, few, first) =
      let wide = first.0 in
      let p = wide.0 in
      let vertex = cut.cuts.only p (in_of_place vertices v p wide.1) in
      let seen = seen_vertex numbers (2 ^ 15) (kept_segments numbers.ring s.points flat ends.edges)
      (kept_within numbers (2 ^ 15) s.points (scaled_narrow narrow s cut.points) flat ends.edges) p vertex in
      let of = cut.points in
      let m_is : narrow.m ≡ of.m = one_denominator parts ends.coords narrow.m of.m narrow.denominator of.denominator in
      small_written numbers holds at_most_three s.common (subst (λ c. pos 0 <ℤ c) (sym of.is) (let above = of.denominator.positive in omega (arith, ints, above)))
      p seen.0 vertex.0 seen.2 seen.1 (subst (λ c. c ≤ℤ pos (2 ^ 12)) (sym of.is) (let small = narrow.small in omega (arith, ints, small, m_is))) wide.2

  pub rational_vertices : k ≡ 1 → ¬ IsRefusal parts numbers flat ends faces (TooWide v Drawn)
  rational_vertices one (s, vertices, cut, few, first) =
      let wide = first.0 in
      let p = wide.0 in
      let vertex = cut.cuts.only p (in_of_place vertices v p wide.1) in
      let seen = seen_vertex numbers (2 ^ 22) (kept_segments numbers.ring s.points flat ends.edges)
      (kept_within numbers (2 ^ 22) s.points (scaled_plain s cut.points) flat ends.edges) p vertex in
      let of = cut.points in
      rational_written numbers holds at_most_three s.common (subst (λ c. pos 0 <ℤ c) (sym of.is) (let above = of.denominator.positive in omega (arith, ints, above)))
      p seen.0 vertex.0 seen.2 one seen.1 (subst (λ c. c ≤ℤ pos (2 ^ 24)) (sym of.is) (let within = of.within in omega (arith, ints, within))) wide.2
