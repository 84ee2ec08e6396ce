-- How many pairs of segments share an x doesn't depend on their order.
use mathlib.Core.Path.{◌≡◌, refl, sym, ap, ap₂, ◌∙◌}
use mathlib.Core.List.{List, [], ◌∷◌}
use mathlib.Core.Bool.{Bool, true, false}
use native.Mathlib.Omega.{arith}
use Rattle.std.specs.Prelude.{◌&&◌, ℕ, ◌+◌, cond, filter, length, sum_by}
use Rattle.std.specs.List.Sorted.{IsPermutation}
use Rattle.std.specs.Ordering.{is_le}
use Rattle.std.proofs.lemmas.List.Sorted.{Contains-permutation, IsPermutation-sym, length_permutation, sum_by-IsPermutation}
use Rattle.std.proofs.lemmas.List.Sums.{sum_by-cons}
use Rattle.algebra.specs.OrderedRing.{OrderedRing}
use Rattle.scaled_plane.specs.declared.point.Segment.{Segment}
use Rattle.scaled_plane.specs.Counts.{left_end, pairs_sharing_x, right_end, share_x, x_order}
use Rattle.arrangement.specs.Spans.{is_proper}
use Rattle.arrangement.proofs.Filtered.{HasProper, in_filter, of_filter, passes, proper}

both_ways : (a b : Bool) → (a && b) ≡ (b && a)
both_ways true true = refl
both_ways true false = refl
both_ways false true = refl
both_ways false false = refl

same_sums : {X : Type 0} (f g : X → ℕ) → ((x : X) → f x ≡ g x) → (xs : List X) → sum_by f xs ≡ sum_by g xs
same_sums f g e [] = refl
same_sums f g e (x ∷ xs) = sum_by-cons f x xs ∙ ap₂ (λ (m n : ℕ). m + n) (e x) (same_sums f g e xs) ∙ sym (sum_by-cons g x xs)

added_sums : {X : Type 0} (f g : X → ℕ) (xs : List X) → sum_by (λ x. f x + g x) xs ≡ sum_by f xs + sum_by g xs
added_sums f g [] = refl
added_sums f g (x ∷ xs) =
    let whole = sum_by-cons (λ x. f x + g x) x xs in
    let first = sum_by-cons f x xs in
    let second = sum_by-cons g x xs in
    let rest = added_sums f g xs in
    omega (arith, whole, first, second, rest)

module _ {A : Type 0} (K : OrderedRing A) where
  shares : Segment A → Segment A → ℕ
  shares s t = cond (share_x K s t) 1 0

  shares_turned : (s t : Segment A) → shares s t ≡ shares t s
  unfolding shares
  shares_turned s t =
      ap (λ b. cond b 1 0) (both_ways (is_le (x_order K (left_end K s) (right_end K t))) (is_le (x_order K (left_end K t) (right_end K s))))

  -- each segment with each, itself too
  total : List (Segment A) → List (Segment A) → ℕ
  total xs ys = sum_by (λ s. sum_by (shares s) ys) xs

  total_is : ((s : Segment A) → shares s s ≡ 1) → (xs : List (Segment A)) → total xs xs ≡ pairs_sharing_x K xs + pairs_sharing_x K xs + length xs
  unfolding total shares
  total_is itself [] = refl
  total_is itself (x ∷ xs) =
      let whole = sum_by-cons (λ s. sum_by (shares s) (x ∷ xs)) x xs in
      let first = sum_by-cons (shares x) x xs in
      let here = itself x in
      let split : sum_by (λ s. sum_by (shares s) (x ∷ xs)) xs ≡ sum_by (λ s. shares s x) xs + sum_by (λ s. sum_by (shares s) xs) xs
      = same_sums (λ s. sum_by (shares s) (x ∷ xs)) (λ s. shares s x + sum_by (shares s) xs) (λ s. sum_by-cons (shares s) x xs) xs
      ∙ added_sums (λ s. shares s x) (λ s. sum_by (shares s) xs) xs in
      let turned : sum_by (λ s. shares s x) xs ≡ sum_by (shares x) xs = same_sums (λ s. shares s x) (shares x) (λ s. shares_turned s x) xs in
      let rest : sum_by (λ s. sum_by (shares s) xs) xs ≡ pairs_sharing_x K xs + pairs_sharing_x K xs + length xs = total_is itself xs in
      omega (arith, whole, first, here, split, turned, rest)

  total_permuted : (xs ys : List (Segment A)) → IsPermutation xs ys → total ys ys ≡ total xs xs
  unfolding total
  total_permuted xs ys h =
      same_sums (λ s. sum_by (shares s) ys) (λ s. sum_by (shares s) xs) (λ s. sum_by-IsPermutation (shares s) xs ys h) ys
      ∙ sum_by-IsPermutation (λ s. sum_by (shares s) xs) xs ys h

  pub pairs_permuted : ((s : Segment A) → share_x K s s ≡ true) → (xs ys : List (Segment A)) → IsPermutation xs ys → pairs_sharing_x K ys ≡ pairs_sharing_x K xs
  unfolding shares
  pairs_permuted itself xs ys h =
      let of_xs = total_is (λ s. ap (λ b. cond b 1 0) (itself s)) xs in
      let of_ys = total_is (λ s. ap (λ b. cond b 1 0) (itself s)) ys in
      let same = total_permuted xs ys h in
      let size = length_permutation xs ys h in
      omega (arith, of_xs, of_ys, same, size)

  -- the proper segments in another order
  pub proper_permuted : (segments others : List (Segment A)) → IsPermutation (filter (is_proper K) segments) others → HasProper K segments others
  proper_permuted segments others h = record {
    kept = λ s c n. Contains-permutation (filter (is_proper K) segments) others s h (in_filter (is_proper K) segments s (passes K s n) c);
    only = λ s c.
        let r = of_filter (is_proper K) segments s (Contains-permutation others (filter (is_proper K) segments) s (IsPermutation-sym (filter (is_proper K) segments) others h) c) in
        (r.0, proper K s r.1);
  }
