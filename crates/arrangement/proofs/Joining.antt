-- The pieces of segments are the pairs of neighbours among the vertices on them.
use mathlib.Core.Path.{◌≡◌, refl, sym, ap, subst, ◌∙◌}
use mathlib.Core.List.{List}
use mathlib.Core.Logic.{◌⊎◌, inl, inr}
use native.Mathlib.Omega.{arith}
use Prim.Native.Nat.{zero, suc}
use Rattle.std.specs.Prelude.{ℕ, ◌+◌, ◌-◌, ◌<◌, ◌≤◌, Bool, true, false, Contains, length, max, min}
use Rattle.std.specs.List.Sorted.{IsStrictlySortedBy}
use Rattle.std.specs.Ordering.{is_eq, ordering_reverse}
use Rattle.std.specs.declared.cmp.Ordering.{Ordering}
use Rattle.std.specs.declared.cmp.Ordering.TheVariants.{Less, Equal, Greater}
use Rattle.std.proofs.lemmas.Bool.{cases_lt, cases_order}
use Rattle.algebra.specs.OrderedRing.{OrderedRing}
use Rattle.plane.specs.declared.point.Point.{Point}
use Rattle.plane.specs.Points.{IsPoint, IsSamePoint, point_order}
use Rattle.plane.specs.Lines.{side}
use Rattle.plane.specs.Segments.{IsOn}
use Rattle.plane.proofs.Along.{between_of_on, on_of_between}
use Rattle.plane.proofs.Lines.{same_through, same_turned, swapped}
use Rattle.plane.proofs.OnSegments.{from_is_on, on_turned, to_is_on}
use Rattle.plane.proofs.Order.{equal_of_same, order_same, order_same_right}
use Rattle.plane.proofs.Shares.{on_same, side_of_on}
use Rattle.plane.proofs.Signs.{equal_le, less_le}
use Rattle.scaled_plane.specs.declared.point.Segment.{Segment}
use Rattle.scaled_plane.specs.Pieces.{IsProper}
use Rattle.arrangement.specs.Covers.{HasEndsAt, IsLastOn, IsPlaceOf, JoinsNext, LiesOn}
use Rattle.arrangement.proofs.OnLines.{Before, Upto, apart, upto_not_before}
use Rattle.arrangement.proofs.Places.{at, at_there, before_at}

module _ {A : Type 0} (K : OrderedRing A) where
  -- ---- points on a segment, by the order of its ends

  -- a point of the line between the ends in order
  on_forward : (a b p : Point A) → IsPoint K a → IsPoint K b → IsPoint K p → Before K a b → side K a b p ≡ Equal → Upto K a p → Upto K p b → IsOn K a b p
  on_forward a b p ha hb hp less on first second = on_of_between K a b p ha hb hp on (first, second) less

  -- the same of a segment that leads back
  on_back : (a b p : Point A) → IsPoint K a → IsPoint K b → IsPoint K p → Before K b a → side K a b p ≡ Equal → Upto K b p → Upto K p a → IsOn K a b p
  on_back a b p ha hb hp less on first second =
      on_turned K (on_of_between K b a p hb ha hp (swapped K a b p ∙ ap ordering_reverse on) (first, second) less)

is_level : (o : Ordering) → is_eq o ≡ true → o ≡ Equal
is_level Less h = absurd (cc)
is_level Equal h = refl
is_level Greater h = absurd (cc)

module _ {A : Type 0} (K : OrderedRing A) (vertices : List (Point A)) (s : Segment A) (v : ℕ) where
  -- what a test of the segment's line tells
  pub level_of : (b : Bool) → b ≡ is_eq (side K s.from s.to (at K vertices v)) → b ≡ true → side K s.from s.to (at K vertices v) ≡ Equal
  level_of b e h = is_level (side K s.from s.to (at K vertices v)) (sym e ∙ h)

  pub off_of : (b : Bool) → b ≡ is_eq (side K s.from s.to (at K vertices v)) → b ≡ false → ¬ LiesOn K vertices s v
  off_of b e h on = absurd (let no : true ≡ false = sym (ap is_eq (side_of_on K on)) ∙ sym e ∙ h in cc)

  -- the last vertex on the segment after one vertex more
  pub last_still : (last : ℕ) → ¬ LiesOn K vertices s v → IsLastOn K vertices s v last → IsLastOn K vertices s (v + 1) last
  last_still last off h = record {
    before = let x = h.before in omega (arith, x);
    on = h.on;
    none_since = λ u more less. not_yet u more less (cases_lt u v);
  }
    where
      not_yet : (u : ℕ) → last < u → u < v + 1 → (u < v) ⊎ (v ≤ u) → ¬ LiesOn K vertices s u
      not_yet u more less (inl before) = h.none_since u more before
      not_yet u more less (inr le) = let same : v ≡ u = omega (arith, less, le) in subst (λ x. ¬ LiesOn K vertices s x) same off

  pub last_now : LiesOn K vertices s v → IsLastOn K vertices s (v + 1) v
  last_now on = record { before = omega arith; on = on; none_since = λ u more less. absurd (omega (arith, more, less)) }

module _ {A : Type 0} (K : OrderedRing A) (vertices : List (Point A)) (points : (p : Point A) → Contains vertices p → IsPoint K p)
    (sorted : IsStrictlySortedBy (point_order K) vertices) (s : Segment A) (hf : IsPoint K s.from) (ht : IsPoint K s.to) where
  point_there : (v : ℕ) → v < length vertices → IsPoint K (at K vertices v)
  point_there v h = points (at K vertices v) (at_there K vertices v h)

  module _ (ends : ℕ × ℕ) (h : HasEndsAt K vertices s ends) where
    first_within : ends.0 < length vertices
    first_within = let a = h.in_order in let b = h.in_range in omega (arith, a, b)

    -- the ends in their order
    forward : IsSamePoint K s.from (at K vertices ends.0) → IsSamePoint K s.to (at K vertices ends.1) → Before K s.from s.to
    forward e f =
        order_same K s.from (at K vertices ends.0) s.to hf (point_there ends.0 first_within) e
        ∙ order_same_right K s.to (at K vertices ends.1) (at K vertices ends.0) ht (point_there ends.1 h.in_range) f
        ∙ before_at K vertices sorted ends.0 ends.1 h.in_order h.in_range

    backward : IsSamePoint K s.from (at K vertices ends.1) → IsSamePoint K s.to (at K vertices ends.0) → Before K s.to s.from
    backward e f =
        order_same K s.to (at K vertices ends.0) s.from ht (point_there ends.0 first_within) f
        ∙ order_same_right K s.from (at K vertices ends.1) (at K vertices ends.0) hf (point_there ends.1 h.in_range) e
        ∙ before_at K vertices sorted ends.0 ends.1 h.in_order h.in_range

    pub proper : IsProper K s
    proper same = elim h.is [
      | inl e ↦ apart K s.from s.to (forward e.0 e.1) same
      | inr e ↦ apart K s.to s.from (backward e.0 e.1) (same_turned K same)
    ]

    -- a vertex at a place from that of the lesser end on stands there, and likewise at the greater end
    from_first : (p : Point A) → IsPoint K p → IsSamePoint K p (at K vertices ends.0) → (v : ℕ) → ends.0 ≤ v → v < length vertices → Upto K p (at K vertices v)
    from_first p hp e v le within = by_cases (cases_lt ends.0 v)
      where
        is : point_order K p (at K vertices v) ≡ point_order K (at K vertices ends.0) (at K vertices v)
        is = order_same K p (at K vertices ends.0) (at K vertices v) hp (point_there ends.0 first_within) e

        by_cases : (ends.0 < v) ⊎ (v ≤ ends.0) → Upto K p (at K vertices v)
        by_cases (inl less) = less_le (is ∙ before_at K vertices sorted ends.0 v less within)
        by_cases (inr back) =
            let same : ends.0 ≡ v = omega (arith, le, back) in
            equal_le (equal_of_same K p (at K vertices v) (subst (λ u. IsSamePoint K p (at K vertices u)) same e))

    to_second : (p : Point A) → IsPoint K p → IsSamePoint K p (at K vertices ends.1) → (v : ℕ) → v ≤ ends.1 → Upto K (at K vertices v) p
    to_second p hp e v le = by_cases (cases_lt v ends.1)
      where
        is : point_order K (at K vertices v) p ≡ point_order K (at K vertices v) (at K vertices ends.1)
        is = order_same_right K p (at K vertices ends.1) (at K vertices v) hp (point_there ends.1 h.in_range) e

        by_cases : (v < ends.1) ⊎ (ends.1 ≤ v) → Upto K (at K vertices v) p
        by_cases (inl less) = less_le (is ∙ before_at K vertices sorted v ends.1 less h.in_range)
        by_cases (inr back) =
            let same : ends.1 ≡ v = omega (arith, le, back) in
            equal_le (equal_of_same K (at K vertices v) p (same_turned K (subst (λ u. IsSamePoint K p (at K vertices u)) same e)))

    -- a vertex between the ends in order lies on the segment where its line goes through it
    pub on_by_line : (v : ℕ) → ends.0 ≤ v → v ≤ ends.1 → side K s.from s.to (at K vertices v) ≡ Equal → LiesOn K vertices s v
    on_by_line v first second on = elim h.is [
      | inl e ↦ on_forward K s.from s.to (at K vertices v) hf ht (point_there v within) (forward e.0 e.1) on
          (from_first s.from hf e.0 v first within) (to_second s.to ht e.1 v second)
      | inr e ↦ on_back K s.from s.to (at K vertices v) hf ht (point_there v within) (backward e.0 e.1) on
          (from_first s.to ht e.1 v first within) (to_second s.from hf e.0 v second)
    ]
      where
        within : v < length vertices
        within = let a = h.in_range in omega (arith, a, second)

    -- the ends lie on it
    pub first_on : LiesOn K vertices s ends.0
    first_on = elim h.is [
      | inl e ↦ on_same K hf (point_there ends.0 first_within) e.0 (from_is_on K s.from s.to)
      | inr e ↦ on_same K ht (point_there ends.0 first_within) e.1 (to_is_on K s.from s.to)
    ]

    pub second_on : LiesOn K vertices s ends.1
    second_on = elim h.is [
      | inl e ↦ on_same K ht (point_there ends.1 h.in_range) e.1 (to_is_on K s.from s.to)
      | inr e ↦ on_same K hf (point_there ends.1 h.in_range) e.0 (from_is_on K s.from s.to)
    ]

    -- and no vertex beyond them does
    pub on_from_first : (v : ℕ) → v < length vertices → LiesOn K vertices s v → ends.0 ≤ v
    on_from_first v within on = by_cases (cases_lt v ends.0)
      where
        at_end : (p : Point A) → IsPoint K p → IsSamePoint K p (at K vertices ends.0) → Upto K p (at K vertices v) → v < ends.0 → ⊥
        at_end p hp e le less =
            upto_not_before K p (at K vertices v) le
            (order_same_right K p (at K vertices ends.0) (at K vertices v) hp (point_there ends.0 first_within) e ∙ before_at K vertices sorted v ends.0 less first_within)

        by_cases : (v < ends.0) ⊎ (ends.0 ≤ v) → ends.0 ≤ v
        by_cases (inl less) = absurd (elim h.is [
          | inl e ↦ at_end s.from hf e.0 (between_of_on K s.from s.to (at K vertices v) hf ht (point_there v within) (forward e.0 e.1) on).0 less
          | inr e ↦ at_end s.to ht e.1 (between_of_on K s.to s.from (at K vertices v) ht hf (point_there v within) (backward e.0 e.1) (on_turned K on)).0 less
        ])
        by_cases (inr le) = le

    pub on_to_second : (v : ℕ) → v < length vertices → LiesOn K vertices s v → v ≤ ends.1
    on_to_second v within on = by_cases (cases_lt ends.1 v)
      where
        at_end : (p : Point A) → IsPoint K p → IsSamePoint K p (at K vertices ends.1) → Upto K (at K vertices v) p → ends.1 < v → ⊥
        at_end p hp e le less =
            upto_not_before K (at K vertices v) p le
            (order_same K p (at K vertices ends.1) (at K vertices v) hp (point_there ends.1 h.in_range) e ∙ before_at K vertices sorted ends.1 v less within)

        by_cases : (ends.1 < v) ⊎ (v ≤ ends.1) → v ≤ ends.1
        by_cases (inl less) = absurd (elim h.is [
          | inl e ↦ at_end s.to ht e.1 (between_of_on K s.from s.to (at K vertices v) hf ht (point_there v within) (forward e.0 e.1) on).1 less
          | inr e ↦ at_end s.from hf e.0 (between_of_on K s.to s.from (at K vertices v) ht hf (point_there v within) (backward e.0 e.1) (on_turned K on)).1 less
        ])
        by_cases (inr le) = le

    -- the lesser end is the last on it so far
    pub first_last : IsLastOn K vertices s (ends.0 + 1) ends.0
    first_last = record { before = omega arith; on = first_on; none_since = λ u more less on. absurd (omega (arith, more, less)) }

    -- no two vertices up to the lesser end are joined, nor any beyond the greater one
    pub none_below : (a b : ℕ) → b < ends.0 + 1 → ¬ JoinsNext K vertices s a b
    none_below a b less j =
        let le = on_from_first a (let x = j.in_order in let y = j.in_range in omega (arith, x, y)) j.first in
        absurd (let x = j.in_order in omega (arith, less, le, x))

    pub none_above : (a b : ℕ) → ends.1 + 1 ≤ b → ¬ JoinsNext K vertices s a b
    none_above a b more j = absurd (let le = on_to_second b j.in_range j.second in omega (arith, more, le))

    -- ---- the next vertex

    pub on_decided : (v : ℕ) → ends.0 ≤ v → v ≤ ends.1 → LiesOn K vertices s v ⊎ (¬ LiesOn K vertices s v)
    on_decided v first second = by_cases (side K s.from s.to (at K vertices v)) refl
      where
        by_cases : (o : Ordering) → side K s.from s.to (at K vertices v) ≡ o → LiesOn K vertices s v ⊎ (¬ LiesOn K vertices s v)
        by_cases Less e = inr (λ on. absurd (let no : Less ≡ Equal = sym e ∙ side_of_on K on in cc))
        by_cases Equal e = inl (on_by_line v first second e)
        by_cases Greater e = inr (λ on. absurd (let no : Greater ≡ Equal = sym e ∙ side_of_on K on in cc))

    -- from a vertex on the segment before the greater end it goes on to a next one
    next_at : (n v u : ℕ) → (u + 1 + n ≡ ends.1 → IsLastOn K vertices s (u + 1) v → (w : ℕ) × JoinsNext K vertices s v w) → u + suc n ≡ ends.1 → ends.0 ≤ v → IsLastOn K vertices s u v
        → LiesOn K vertices s u ⊎ (¬ LiesOn K vertices s u) → (w : ℕ) × JoinsNext K vertices s v w
    next_at n v u rest e from last (inl on) = (
      u,
      record {
        proper = proper;
        in_order = last.before;
        in_range = let x = h.in_range in omega (arith, e, x);
        first = last.on;
        second = on;
        nothing_between = last.none_since;
      },
    )
    next_at n v u rest e from last (inr off) =
        rest (omega (arith, e)) (record {
          before = let x = last.before in omega (arith, x);
          on = last.on;
          none_since = λ w more less. not_yet w more less (cases_lt w u);
        })
      where
        not_yet : (w : ℕ) → v < w → w < u + 1 → (w < u) ⊎ (u ≤ w) → ¬ LiesOn K vertices s w
        not_yet w more less (inl before) = last.none_since w more before
        not_yet w more less (inr le) = let same : u ≡ w = omega (arith, less, le) in subst (λ x. ¬ LiesOn K vertices s x) same off

    next_from : (n v u : ℕ) → u + n ≡ ends.1 → ends.0 ≤ v → IsLastOn K vertices s u v → (w : ℕ) × JoinsNext K vertices s v w
    next_from zero v u e from last =
        let here : ends.1 ≡ u = omega (arith, e) in (
          u,
          record {
            proper = proper;
            in_order = last.before;
            in_range = subst (λ x. x < length vertices) here h.in_range;
            first = last.on;
            second = subst (LiesOn K vertices s) here second_on;
            nothing_between = last.none_since;
          },
        )
    next_from (suc n) v u e from last =
        next_at n v u (λ f more. next_from n v (u + 1) f from more) e from last
        (on_decided u (let x = last.before in omega (arith, x, from)) (omega (arith, e)))

    pub next_on : (v : ℕ) → LiesOn K vertices s v → ends.0 ≤ v → v < ends.1 → (w : ℕ) × JoinsNext K vertices s v w
    next_on v on from less =
        next_from (ends.1 - (v + 1)) v (v + 1) (omega (arith, less)) from
        (record { before = omega arith; on = on; none_since = λ u more before. absurd (omega (arith, more, before)) })

    -- the vertices on the segment up to v end in one that is joined to v
    last_at : (n u : ℕ) → (w : ℕ) × IsLastOn K vertices s (ends.0 + 1 + n) w → LiesOn K vertices s (ends.0 + 1 + n) ⊎ (¬ LiesOn K vertices s (ends.0 + 1 + n))
        → ends.0 + 1 + suc n ≡ u → (w : ℕ) × IsLastOn K vertices s u w
    last_at n u found (inl on) e =
        (ends.0 + 1 + n, record { before = omega (arith, e); on = on; none_since = λ w more less. absurd (omega (arith, more, less, e)) })
    last_at n u found (inr off) e =
        let last = found.1 in (
          found.0,
          record {
            before = let x = last.before in omega (arith, x, e);
            on = last.on;
            none_since = λ w more less. not_yet w more less (cases_lt w (ends.0 + 1 + n));
          },
        )
      where
        not_yet : (w : ℕ) → found.0 < w → w < u → (w < ends.0 + 1 + n) ⊎ (ends.0 + 1 + n ≤ w) → ¬ LiesOn K vertices s w
        not_yet w more less (inl before) = found.1.none_since w more before
        not_yet w more less (inr le) = let same : ends.0 + 1 + n ≡ w = omega (arith, less, le, e) in subst (λ x. ¬ LiesOn K vertices s x) same off

    last_before : (n u : ℕ) → ends.0 + 1 + n ≡ u → u ≤ ends.1 → (w : ℕ) × IsLastOn K vertices s u w
    last_before zero u e within = (ends.0, subst (λ x. IsLastOn K vertices s x ends.0) (let f : ends.0 + 1 ≡ u = omega (arith, e) in f) first_last)
    last_before (suc n) u e within =
        last_at n u (last_before n (ends.0 + 1 + n) refl (omega (arith, e, within))) (on_decided (ends.0 + 1 + n) (omega arith) (omega (arith, e, within))) e

    pub last_joins : (w : ℕ) × JoinsNext K vertices s w ends.1
    last_joins =
        let found = last_before (ends.1 - (ends.0 + 1)) ends.1 (let x = h.in_order in omega (arith, x)) (omega arith) in
        let last = found.1 in (
          found.0,
          record {
            proper = proper;
            in_order = last.before;
            in_range = h.in_range;
            first = last.on;
            second = second_on;
            nothing_between = last.none_since;
          },
        )

  -- the places of two different ends, in order
  pub ends_of : (a b low high : ℕ) → IsProper K s → IsPlaceOf K vertices s.from a → IsPlaceOf K vertices s.to b → low ≡ min a b → high ≡ max a b → HasEndsAt K vertices s (low, high)
  ends_of a b low high n at_from at_to is_low is_high = by_cases (cases_order a b)
    where
      by_cases : (a ≡ b) ⊎ ((a < b) ⊎ (b < a)) → HasEndsAt K vertices s (low, high)
      by_cases (inl e) =
          absurd (n (same_through K s.from (at K vertices b) s.to (point_there b at_to.in_range) (subst (λ v. IsSamePoint K s.from (at K vertices v)) e at_from.same) (same_turned K at_to.same)))
      by_cases (inr (inl less)) =
          let first : a ≡ low = omega (arith, is_low, less) in
          let second : b ≡ high = omega (arith, is_high, less) in
          record {
            in_order = omega (arith, first, second, less);
            in_range = subst (λ v. v < length vertices) second at_to.in_range;
            is = inl (subst (λ v. IsSamePoint K s.from (at K vertices v)) first at_from.same, subst (λ v. IsSamePoint K s.to (at K vertices v)) second at_to.same);
          }
      by_cases (inr (inr more)) =
          let first : b ≡ low = omega (arith, is_low, more) in
          let second : a ≡ high = omega (arith, is_high, more) in
          record {
            in_order = omega (arith, first, second, more);
            in_range = subst (λ v. v < length vertices) second at_from.in_range;
            is = inr (subst (λ v. IsSamePoint K s.from (at K vertices v)) second at_from.same, subst (λ v. IsSamePoint K s.to (at K vertices v)) first at_to.same);
          }
