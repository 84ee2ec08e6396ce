-- A point is found among vertices in order.
use mathlib.Core.Path.{◌≡◌, sym, ap, subst, ◌∙◌}
use mathlib.Core.List.{List, map}
use mathlib.Core.Logic.{◌⊎◌, inl, inr}
use native.Mathlib.Omega.{arith}
use Rattle.std.specs.Prelude.{ℕ, ◌+◌, ◌<◌, ◌≤◌, Contains, length, slice_index_or}
use Rattle.std.specs.List.Sorted.{IsNonDecreasingBy, IsPartitionPoint, IsSortedBy, IsStrictlySortedBy}
use Rattle.std.specs.Ordering.{is_lt, ordering_index, ordering_reverse}
use Rattle.std.specs.declared.cmp.Ordering.TheVariants.{Less, Equal, Greater}
use Rattle.std.proofs.lemmas.Bool.{cases_lt}
use Rattle.std.proofs.lemmas.List.{get_or-map, length-map}
use Rattle.std.proofs.lemmas.List.Sorted.{searchable_from_sorted}
use Rattle.std.proofs.lemmas.Map.Keys.{Less-from_sorted}
use Rattle.algebra.specs.OrderedRing.{OrderedRing}
use Rattle.plane.specs.declared.point.Point.{Point}
use Rattle.plane.specs.Points.{IsPoint, IsSamePoint, origin, point_order}
use Rattle.plane.proofs.Lines.{same_turned}
use Rattle.plane.proofs.Order.{SomePoint, equal_of_same, order_turned, points_total, same_of_equal}
use Rattle.scaled_plane.specs.Pieces.{point_at}
use Rattle.arrangement.specs.Covers.{IsPlaceOf}
use Rattle.arrangement.specs.Found.{Has}
use Rattle.arrangement.proofs.Listed.{seen_in, seen_within}
use Rattle.arrangement.proofs.Places.{place_of_has}

module _ {A : Type 0} (K : OrderedRing A) {V : Type 0} (point : V → Point A) (is_point : (v : V) → IsPoint K (point v)) (xs : List V) where
  -- what stands at a place
  pub seen : (i : ℕ) (d : V) → i < length xs → point_at K (map point xs) i ≡ point (slice_index_or xs i d)
  seen i d h = get_or-map point xs i d (origin K.ops) h

  pub all_points : (p : Point A) → Contains (map point xs) p → IsPoint K p
  all_points p c = let r = seen_in point xs p c in subst (IsPoint K) r.2 (is_point r.0)

  pub place_found : (p : Point A) (i : ℕ) (d : V) → i < length xs → point_order K (point (slice_index_or xs i d)) p ≡ Equal → IsPlaceOf K (map point xs) p i
  place_found p i d h e = record {
    in_range = seen_within point xs i h;
    same = subst (IsSamePoint K p) (sym (seen i d h)) (same_turned K (same_of_equal K (point (slice_index_or xs i d)) p e));
  }

  module _ (sorted : IsStrictlySortedBy (point_order K) (map point xs)) where
    in_order : IsSortedBy (λ a b. is_lt (point_order K (point a) (point b))) xs
    in_order k d from within =
        let first : k < length xs = omega (arith, within) in
        let size = length-map xs point in
        let less : point_order K (point (slice_index_or xs k d)) (point (slice_index_or xs (k + 1) d)) ≡ Less
        = subst (λ p. point_order K p (point (slice_index_or xs (k + 1) d)) ≡ Less) (get_or-map point xs k d (point d) first)
        (subst (λ p. point_order K (slice_index_or (map point xs) k (point d)) p ≡ Less) (get_or-map point xs (k + 1) d (point d) within)
        (Less-from_sorted (point_order K) (map point xs) k (k + 1) (point d) sorted (omega arith) (omega (arith, within, size)))) in
        ap is_lt (order_turned K (point (slice_index_or xs k d)) (point (slice_index_or xs (k + 1) d)) ∙ ap ordering_reverse less)

    -- a search that ends between two vertices has looked for no vertex
    pub none_missed : (v : V) (i : ℕ) → Has K (map point xs) (point v)
        → (IsNonDecreasingBy (λ y. ordering_index (point_order K (point y) (point v))) xs
        → IsPartitionPoint (λ y. point_order K (point y) (point v) ≡ Less) (λ y. point_order K (point y) (point v) ≡ Greater) xs i) → ⊥
    none_missed v i has parts = by_cases (cases_lt j i)
      where
        key : V → SomePoint K
        key y = (point y, is_point y)

        point_is : IsPartitionPoint (λ y. point_order K (point y) (point v) ≡ Less) (λ y. point_order K (point y) (point v) ≡ Greater) xs i
        point_is = parts (searchable_from_sorted (points_total K) key xs (key v) in_order)

        found : (j : ℕ) × IsPlaceOf K (map point xs) (point v) j
        found = place_of_has K (map point xs) (point v) has

        j : ℕ
        j = found.0

        within : j < length xs
        within = let a = found.1.in_range in let size = length-map xs point in omega (arith, a, size)

        equal : point_order K (point (slice_index_or xs j v)) (point v) ≡ Equal
        equal = equal_of_same K (point (slice_index_or xs j v)) (point v) (same_turned K (subst (IsSamePoint K (point v)) (seen j v within) found.1.same))

        by_cases : (j < i) ⊎ (i ≤ j) → ⊥
        by_cases (inl less) = absurd (let no : Less ≡ Equal = sym (point_is.0 j v (omega arith) less) ∙ equal in cc)
        by_cases (inr from) = absurd (let no : Greater ≡ Equal = sym (point_is.1 j v from within) ∙ equal in cc)
