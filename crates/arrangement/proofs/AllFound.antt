-- The points that are found are the vertices, and no list of the vertices is shorter.
use mathlib.Core.Path.{◌≡◌, sym, ap, subst, ◌∙◌}
use mathlib.Core.List.{List, [], ◌∷◌}
use native.Mathlib.Omega.{arith}
use Rattle.std.proofs.Common.{inl, inr}
use Rattle.std.specs.Prelude.{◌⊎◌, ℕ, ◌<◌, ◌≤◌, ℤ, pos, Contains, AllPairs, length, slice_index_or}
use Rattle.std.specs.List.{AllByRecursion}
use Rattle.std.specs.List.Sorted.{IsStrictlySortedBy}
use Rattle.std.specs.declared.cmp.Ordering.TheVariants.{Less, Equal}
use Rattle.std.proofs.lemmas.List.Elements.{All-from_recursion, All-contains}
use Rattle.std.proofs.lemmas.List.{get_or_default}
use Rattle.std.proofs.lemmas.Bool.{cases_order}
use Rattle.algebra.specs.OrderedRing.{OrderedRing}
use Rattle.algebra.proofs.Solvers.{reads, ring, sign_from, known, no_sign, at_zero, given, negated}
use Rattle.algebra.specs.Surd.{Surd}
use Rattle.algebra.specs.WholeSurds.{SurdNumbers}
use Rattle.plane.specs.declared.point.Point.{Point}
use Rattle.scaled_plane.specs.declared.point.Segment.{Segment}
use Rattle.plane.specs.Points.{IsPoint, IsSamePoint, point_order}
use Rattle.plane.specs.Directions.{AreParallel, direction, turn}
use Rattle.scaled_plane.specs.Segments.{IsCommon}
use Rattle.scaled_plane.specs.Pieces.{IsVertex, IsEndOfOne, AreVertices}
use Rattle.scaled_plane.specs.Drawn.{IsDrawn, IsScaledPoint}
use Rattle.plane.proofs.Lines.{same_refl, same_turned, same_through}
use Rattle.plane.proofs.Order.{order_same_right, order_chain, equal_of_same}
use Rattle.scaled_plane.proofs.DrawnSizes.{scaled_point}
use Rattle.arrangement.specs.Found.{Has, Grows, HasEnds, HasCrossing, IsCrossedIn, IsEndIn, IsUsable}
use Rattle.plane.proofs.Members.{in_cons, in_head, in_nil, in_tail}
use Rattle.arrangement.proofs.Growing.{has_same, crossed_drawn}

module _ {A : Type 0} (K : OrderedRing A) where
  abbrev pub ArePoints : List (Point A) → Type 0
  ArePoints xs = (x : Point A) → Contains xs x → IsPoint K x

  not_head : (y : Point A) (ys : List (Point A)) (x : Point A) → ¬ IsSamePoint K x y → Has K (y ∷ ys) x → Has K ys x
  not_head y ys x n h = by_cases (in_cons y ys h.0 h.1)
    where
      by_cases : (y ≡ h.0) ⊎ Contains ys h.0 → Has K ys x
      by_cases (inl e) = absurd (n (subst (IsSamePoint K x) (sym e) h.2))
      by_cases (inr c) = (h.0, c, h.2)

  after_head : (x : Point A) (xs : List (Point A)) (z : Point A) → AllByRecursion (λ w. point_order K x w ≡ Less) xs → Contains xs z → point_order K x z ≡ Less
  after_head x xs z a c = All-contains (λ w. point_order K x w ≡ Less) xs z (All-from_recursion (λ w. point_order K x w ≡ Less) xs a) c

  apart : (x z : Point A) → point_order K x z ≡ Less → ¬ IsSamePoint K x z
  apart x z less e = absurd (let no : Less ≡ Equal = sym less ∙ equal_of_same K x z e in cc)

  abbrev Shorter : List (Point A) → Type 0
  Shorter ys = (xs : List (Point A)) → IsStrictlySortedBy (point_order K) xs → ArePoints xs → ((x : Point A) → Contains xs x → Has K ys x) → length xs ≤ length ys

  longer : (x : Point A) (xs : List (Point A)) (y : Point A) (ys : List (Point A)) → AllByRecursion (λ w. point_order K x w ≡ Less) xs → IsStrictlySortedBy (point_order K) xs
      → IsStrictlySortedBy (point_order K) (x ∷ xs)
      → AllByRecursion (λ w. point_order K y w ≡ Less) ys → ArePoints (x ∷ xs) → ArePoints (y ∷ ys) → ((z : Point A) → Contains (x ∷ xs) z → Has K (y ∷ ys) z) → Shorter ys
      → length (x ∷ xs) ≤ length (y ∷ ys)
  longer x xs y ys above sorted whole below px py has shorter = by_cases (has x (in_head x xs)) (in_cons y ys (has x (in_head x xs)).0 (has x (in_head x xs)).1)
    where
      hx : IsPoint K x
      hx = px x (in_head x xs)

      hy : IsPoint K y
      hy = py y (in_head y ys)

      by_cases : (h : Has K (y ∷ ys) x) → (y ≡ h.0) ⊎ Contains ys h.0 → length (x ∷ xs) ≤ length (y ∷ ys)
      by_cases h (inl e) =
          let same : IsSamePoint K x y = subst (IsSamePoint K x) (sym e) h.2 in
          let rest = shorter xs sorted (λ z c. px z (in_tail x xs z c))
          (λ z c. not_head y ys z (λ q. apart x z (after_head x xs z above c) (same_through K x y z hy same (same_turned K q))) (has z (in_tail x xs z c))) in
          omega (arith, rest)
      by_cases h (inr c) =
          let hq : IsPoint K h.0 = py h.0 (in_tail y ys h.0 c) in
          let first : point_order K y x ≡ Less = order_same_right K x h.0 y hx hq h.2 ∙ after_head y ys h.0 below c in
          let rest = shorter (x ∷ xs) whole px
          (λ z d. not_head y ys z (apart_from z (in_cons x xs z d) first) (has z d)) in
          omega (arith, rest)
        where
          apart_from : (z : Point A) → (x ≡ z) ⊎ Contains xs z → point_order K y x ≡ Less → ¬ IsSamePoint K z y
          apart_from z (inl e) first q = apart y x first (same_turned K (subst (λ u. IsSamePoint K u y) (sym e) q))
          apart_from z (inr d) first q =
              apart y z (order_chain K y x z hy hx (px z (in_tail x xs z d)) first (after_head x xs z above d)) (same_turned K q)

  -- a list of points without doubles is no longer than one that has them all
  pub no_longer : (ys : List (Point A)) → IsStrictlySortedBy (point_order K) ys → ArePoints ys → Shorter ys
  unfolding IsStrictlySortedBy
  no_longer ys sy py [] sx px has = omega arith
  no_longer [] sy py (x ∷ xs) sx px has = absurd (in_nil (has x (in_head x xs)).0 (has x (in_head x xs)).1)
  no_longer (y ∷ ys) sy py (x ∷ xs) sx px has = longer x xs y ys sx.0 sx.1 sx sy.0 px py has (no_longer ys sy.1 (λ z c. py z (in_tail y ys z c)))

module _ {A : Type 0} (K : OrderedRing A) where
  pub parallel_turned : (a b c d : Point A) → AreParallel K c d a b → AreParallel K a b c d
  parallel_turned a b c d h =
      let d1 = direction K.ops a b in
      let d2 = direction K.ops c d in
      sign_from K (d1.x ∷ d1.y ∷ d2.x ∷ d2.y ∷ []) (known at_zero (search reads depth 40 fits 50000) h no_sign) at_zero (search reads depth 40 fits 50000) (negated (given 0)) tt tt

  pub parallel_self : (a b : Point A) → AreParallel K a b a b
  parallel_self a b =
      let d1 = direction K.ops a b in
      let zero : turn K.ops d1 d1 ≡ K.int (pos 0) = ring K (d1.x ∷ d1.y ∷ []) (search reads depth 40 fits 50000) (search reads depth 40 fits 50000) tt in
      ap K.sign zero ∙ K.sign_int (pos 0)

  -- each common point of two that aren't parallel is there, in whichever order they stand
  pub cut_there : (points : List (Point A)) (segments : List (Segment A)) (s t : Segment A) (p : Point A) → AllPairs (HasCrossing K points) segments → Contains segments s → Contains segments t
      → IsPoint K p → ¬ AreParallel K s.from s.to t.from t.to → IsCommon K s t p → Has K points p
  cut_there points segments s t p pairs cs ct hp across common = by_order (cases_order cs.0 ct.0)
    where
      at_s : (d : Segment A) → slice_index_or segments cs.0 d ≡ s
      at_s d = get_or_default segments cs.0 d s cs.1 ∙ cs.2

      at_t : (d : Segment A) → slice_index_or segments ct.0 d ≡ t
      at_t d = get_or_default segments ct.0 d t ct.1 ∙ ct.2

      by_order : (cs.0 ≡ ct.0) ⊎ ((cs.0 < ct.0) ⊎ (ct.0 < cs.0)) → Has K points p
      by_order (inl e) =
          let same : s ≡ t = sym (at_s s) ∙ ap (λ m. slice_index_or segments m s) e ∙ at_t s in
          absurd (across (subst (λ u. AreParallel K s.from s.to u.from u.to) same (parallel_self s.from s.to)))
      by_order (inr (inl less)) =
          subst (λ u. HasCrossing K points u t) (at_s s) (subst (HasCrossing K points (slice_index_or segments cs.0 s)) (at_t s) (pairs cs.0 ct.0 s less ct.1)) p hp across common
      by_order (inr (inr more)) =
          subst (λ u. HasCrossing K points u s) (at_t s) (subst (HasCrossing K points (slice_index_or segments ct.0 s)) (at_s s) (pairs ct.0 cs.0 s more cs.1)) p hp
          (λ h. across (parallel_turned s.from s.to t.from t.to h)) (common.1, common.0)

module _ {A : Type 0} {k : ℕ} {surd : A → Surd ℤ} (numbers : SurdNumbers k surd) (segments : List (Segment A)) (usable : (s : Segment A) → Contains segments s → IsUsable numbers s) where
  -- the points come from the segments' ends and crossings
  abbrev pub ComeFrom : List (Point A) → Type 0
  ComeFrom points = (p : Point A) → Contains points p → IsEndIn numbers.ring segments p ⊎ IsCrossedIn numbers.ring segments p

  pub come_from : (ends points : List (Point A)) → Grows numbers.ring (IsEndIn numbers.ring segments) [] ends → Grows numbers.ring (IsCrossedIn numbers.ring segments) ends points → ComeFrom points
  come_from ends points g h p c = crossed_or_end (h.only p c)
    where
      an_end : Contains [] p ⊎ (IsEndIn numbers.ring segments p × ¬ Has numbers.ring [] p) → IsEndIn numbers.ring segments p
      an_end (inl n) = absurd (in_nil p n)
      an_end (inr n) = n.0

      crossed_or_end : Contains ends p ⊎ (IsCrossedIn numbers.ring segments p × ¬ Has numbers.ring ends p) → IsEndIn numbers.ring segments p ⊎ IsCrossedIn numbers.ring segments p
      crossed_or_end (inl n) = inl (an_end (g.only p n))
      crossed_or_end (inr n) = inr n.0

  end_vertex : (p : Point A) → IsEndIn numbers.ring segments p → IsVertex numbers.ring segments p
  end_vertex p (s, c, inl e) = (
    subst (IsPoint numbers.ring) (sym e) (scaled_point numbers s.from (usable s c).from),
    inl (s, c, (usable s c).proper, inl (subst (λ q. IsSamePoint numbers.ring q s.from) (sym e) (same_refl numbers.ring s.from))),
  )
  end_vertex p (s, c, inr e) = (
    subst (IsPoint numbers.ring) (sym e) (scaled_point numbers s.to (usable s c).to),
    inl (s, c, (usable s c).proper, inr (subst (λ q. IsSamePoint numbers.ring q s.to) (sym e) (same_refl numbers.ring s.to))),
  )

  crossed_vertex : (p : Point A) → IsCrossedIn numbers.ring segments p → IsVertex numbers.ring segments p
  crossed_vertex p (s, c, (t, d, m)) = (m.point, inr (s, t, c, d, (usable s c).proper, (usable t d).proper, m.across, m.common))

  pub found_vertex : (points : List (Point A)) → ComeFrom points → (p : Point A) → Contains points p → IsVertex numbers.ring segments p
  found_vertex points from p c = by_cases (from p c)
    where
      by_cases : IsEndIn numbers.ring segments p ⊎ IsCrossedIn numbers.ring segments p → IsVertex numbers.ring segments p
      by_cases (inl e) = end_vertex p e
      by_cases (inr m) = crossed_vertex p m

  end_drawn : (p : Point A) → IsEndIn numbers.ring segments p → IsDrawn numbers p
  end_drawn p (s, c, inl e) = subst (IsDrawn numbers) (sym e) (inl (usable s c).from)
  end_drawn p (s, c, inr e) = subst (IsDrawn numbers) (sym e) (inl (usable s c).to)

  pub found_drawn : (points : List (Point A)) → ComeFrom points → (p : Point A) → Contains points p → IsDrawn numbers p
  found_drawn points from p c = by_cases (from p c)
    where
      by_cases : IsEndIn numbers.ring segments p ⊎ IsCrossedIn numbers.ring segments p → IsDrawn numbers p
      by_cases (inl e) = end_drawn p e
      by_cases (inr (s, d, (t, f, m))) = crossed_drawn numbers s t (usable s d) (usable t f) p m

  -- more points than a drawing may have: each list of all vertices is as long
  pub many_vertices : (points vertices : List (Point A)) → ComeFrom points → IsStrictlySortedBy (point_order numbers.ring) points → AreVertices numbers.ring segments vertices
      → length points ≤ length vertices
  many_vertices points vertices from sorted all =
      no_longer numbers.ring vertices all.sorted (λ p c. (all.only p c).0) points sorted (λ p c. (found_vertex points from p c).0)
      (λ p c. all.every p (found_vertex points from p c))

  end_there : (points : List (Point A)) → ((s : Segment A) → Contains segments s → HasEnds numbers.ring points s) → (p : Point A) → IsEndOfOne numbers.ring segments p → Has numbers.ring points p
  end_there points ends p (s, c, proper, inl same) = has_same numbers.ring points p s.from (scaled_point numbers s.from (usable s c).from) same (ends s c).0
  end_there points ends p (s, c, proper, inr same) = has_same numbers.ring points p s.to (scaled_point numbers s.to (usable s c).to) same (ends s c).1

  -- each vertex is found
  pub vertex_found : (points : List (Point A)) → ((s : Segment A) → Contains segments s → HasEnds numbers.ring points s) → AllPairs (HasCrossing numbers.ring points) segments
      → (p : Point A) → IsVertex numbers.ring segments p → Has numbers.ring points p
  vertex_found points ends pairs p (hp, inl e) = end_there points ends p e
  vertex_found points ends pairs p (hp, inr (s, t, cs, ct, ps, pt, across, common)) = cut_there numbers.ring points segments s t p pairs cs ct hp across common

  pub found_vertices : (points : List (Point A)) → ComeFrom points → IsStrictlySortedBy (point_order numbers.ring) points
      → ((s : Segment A) → Contains segments s → HasEnds numbers.ring points s) → AllPairs (HasCrossing numbers.ring points) segments → AreVertices numbers.ring segments points
  found_vertices points from sorted ends pairs = record {
    sorted = sorted;
    only = found_vertex points from;
    every = vertex_found points ends pairs;
  }

  scaled_by : (p : Point A) → IsEndIn numbers.ring segments p → IsScaledPoint numbers p
  scaled_by p (s, c, inl e) = subst (IsScaledPoint numbers) (sym e) (usable s c).from
  scaled_by p (s, c, inr e) = subst (IsScaledPoint numbers) (sym e) (usable s c).to

  -- an end is there as itself
  pub ends_scaled : (ends points : List (Point A)) → Grows numbers.ring (IsEndIn numbers.ring segments) [] ends → Grows numbers.ring (IsCrossedIn numbers.ring segments) ends points
      → ((s : Segment A) → Contains segments s → HasEnds numbers.ring ends s) → (p : Point A) → Contains points p → IsEndOfOne numbers.ring segments p → IsScaledPoint numbers p
  ends_scaled ends points g h all p c e = by_cases (h.only p c)
    where
      an_end : Contains [] p ⊎ (IsEndIn numbers.ring segments p × ¬ Has numbers.ring [] p) → IsScaledPoint numbers p
      an_end (inl n) = absurd (in_nil p n)
      an_end (inr n) = scaled_by p n.0

      by_cases : Contains ends p ⊎ (IsCrossedIn numbers.ring segments p × ¬ Has numbers.ring ends p) → IsScaledPoint numbers p
      by_cases (inl n) = an_end (g.only p n)
      by_cases (inr n) = absurd (n.1 (end_there ends all p e))
