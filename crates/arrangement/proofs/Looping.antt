-- Steps of the loops over segments.
use mathlib.Core.Path.{◌≡◌, sym, ap, subst, ◌∙◌}
use mathlib.Core.List.{List, [], ◌∷◌, ◌++◌}
use native.Mathlib.Omega.{arith}
use Rattle.std.proofs.Common.{inl, inr}
use Rattle.std.specs.Prelude.{◌⊎◌, Bool, cond, ℕ, ◌+◌, ◌<◌, ◌≤◌, Contains, take, drop, length, slice_index_or, count_by, ◌-◌}
use Rattle.std.proofs.lemmas.List.{take_more, get_or-drop, length-drop, get_or_default, at_drop_more}
use Rattle.std.proofs.lemmas.List.Elements.{Contains-push_cases, Contains-get_or}
use Rattle.std.proofs.lemmas.Bool.{cases_lt}
use Rattle.std.proofs.lemmas.List.Sums.{sum_by_more, sum_by_more_le}
use Rattle.algebra.specs.OrderedRing.{OrderedRing}
use Rattle.plane.specs.declared.point.Point.{Point}
use Rattle.scaled_plane.specs.declared.point.Segment.{Segment}
use Rattle.scaled_plane.specs.Counts.{share_x, pairs_sharing_x}
use Rattle.arrangement.specs.Found.{Grows, HasEnds, HasCrossing, IsCrossed, IsCrossedBy, IsCrossedIn, IsEndIn}
use Rattle.arrangement.proofs.Growing.{grows_by, grows_on, crossing_kept, ends_kept}

-- what stands at a place is contained
pub read_in : {X : Type 0} (xs : List X) (i : ℕ) (x : X) → i < length xs → x ≡ slice_index_or xs i x → Contains xs x
read_in xs i x h e = (i, h, sym e)

-- one more of the front
pub in_more : {X : Type 0} (xs : List X) (i : ℕ) (x y : X) → i < length xs → x ≡ slice_index_or xs i x → Contains (take (i + 1) xs) y → Contains (take i xs) y ⊎ (x ≡ y)
in_more xs i x y h e c =
    Contains-push_cases (take i xs) x y (subst (λ zs. Contains zs y) (take_more xs i x h ∙ ap (λ z. take i xs ++ z ∷ []) (sym e)) c)

pub count_more : {X : Type 0} (p : X → Bool) (xs : List X) (i : ℕ) (x : X) (m n k : ℕ) → i < length xs → x ≡ slice_index_or xs i x
    → n ≡ m + count_by p (take i xs) → k ≡ n + cond (p x) 1 0 → k ≡ m + count_by p (take (i + 1) xs)
count_more p xs i x m n k h e before now =
    let more : count_by p (take (i + 1) xs) ≡ count_by p (take i xs) + cond (p x) 1 0
    = sum_by_more (λ y. cond (p y) 1 0) xs i x h ∙ ap (λ y. count_by p (take i xs) + cond (p y) 1 0) (sym e) in
    omega (arith, before, now, more)

pub count_within : {X : Type 0} (p : X → Bool) (xs : List X) (i : ℕ) (x : X) (m n k : ℕ) → i < length xs → x ≡ slice_index_or xs i x
    → n ≡ m + count_by p (take i xs) → k ≡ n + cond (p x) 1 0 → (m ≤ k) × (k ≤ m + count_by p xs)
count_within p xs i x m n k h e before now =
    let most : count_by p (take i xs) + cond (p x) 1 0 ≤ count_by p xs
    = subst (λ y. count_by p (take i xs) + cond (p y) 1 0 ≤ count_by p xs) (sym e) (sum_by_more_le (λ y. cond (p y) 1 0) xs i x h) in
    (omega (arith, before, now), omega (arith, before, now, most))

module _ {A : Type 0} (K : OrderedRing A) (s : Segment A) (rest : List (Segment A)) (i : ℕ) (t : Segment A) (h : i < length rest) (e : t ≡ slice_index_or rest i t) where
  pub grows_with : (a b c : List (Point A)) → Grows K (IsCrossedBy K s rest) a b → Grows K (IsCrossed K s t) b c → Grows K (IsCrossedBy K s rest) a c
  grows_with a b c g k =
      grows_on K (IsCrossedBy K s rest) a b c g (grows_by K (IsCrossed K s t) (IsCrossedBy K s rest) b c (λ p m. (t, read_in rest i t h e, m)) k)

  pub has_with : (b c : List (Point A)) → Grows K (IsCrossed K s t) b c → ((u : Segment A) → Contains (take i rest) u → HasCrossing K b s u) → HasCrossing K c s t
      → (u : Segment A) → Contains (take (i + 1) rest) u → HasCrossing K c s u
  has_with b c k before now u there = by_cases (in_more rest i t u h e there)
    where
      by_cases : Contains (take i rest) u ⊎ (t ≡ u) → HasCrossing K c s u
      by_cases (inl n) = crossing_kept K (IsCrossed K s t) b c s u k (before u n)
      by_cases (inr q) = subst (HasCrossing K c s) q now

-- what the list has from place n on
pub rest_in : {X : Type 0} (xs : List X) (n : ℕ) (x : X) → Contains (drop n xs) x → Contains xs x
rest_in xs n x c =
    let within : c.0 < length xs - n = subst (λ m. c.0 < m) (length-drop n xs) c.1 in
    (n + c.0, omega (arith, within), sym (get_or-drop n xs c.0 x) ∙ c.2)

pub in_rest : {X : Type 0} (xs : List X) (n k : ℕ) (d : X) → n ≤ k → k < length xs → Contains (drop n xs) (slice_index_or xs k d)
in_rest xs n k d from within =
    let short : k - n < length xs - n = omega (arith, from, within) in
    let there : n + (k - n) ≡ k = omega (arith, from) in
    subst (Contains (drop n xs)) (get_or-drop n xs (k - n) d ∙ ap (λ m. slice_index_or xs m d) there)
    (Contains-get_or (drop n xs) (k - n) d (subst (λ m. k - n < m) (sym (length-drop n xs)) short))

module _ {A : Type 0} (K : OrderedRing A) (xs : List (Segment A)) (i : ℕ) (x : Segment A) (h : i < length xs) (e : x ≡ slice_index_or xs i x)
    (r : List (Segment A)) (is : r ≡ drop (i + 1) xs) where
  pub in_all : (t : Segment A) → Contains r t → Contains xs t
  in_all t c = rest_in xs (i + 1) t (subst (λ zs. Contains zs t) is c)

  pub grows_all : (a b c : List (Point A)) → Grows K (IsCrossedIn K xs) a b → Grows K (IsCrossedBy K x r) b c → Grows K (IsCrossedIn K xs) a c
  grows_all a b c g k =
      grows_on K (IsCrossedIn K xs) a b c g
      (grows_by K (IsCrossedBy K x r) (IsCrossedIn K xs) b c (λ p m. (x, read_in xs i x h e, (m.0, in_all m.0 m.1, m.2))) k)

  pub has_all : (b c : List (Point A)) → Grows K (IsCrossedBy K x r) b c
      → ((j k : ℕ) (d : Segment A) → j < i → j < k → k < length xs → HasCrossing K b (slice_index_or xs j d) (slice_index_or xs k d))
      → ((t : Segment A) → Contains r t → HasCrossing K c x t)
      → (j k : ℕ) (d : Segment A) → j < i + 1 → j < k → k < length xs → HasCrossing K c (slice_index_or xs j d) (slice_index_or xs k d)
  has_all b c g before now j k d hj hk hl = by_cases (cases_lt j i)
    where
      by_cases : (j < i) ⊎ (i ≤ j) → HasCrossing K c (slice_index_or xs j d) (slice_index_or xs k d)
      by_cases (inl less) = crossing_kept K (IsCrossedBy K x r) b c (slice_index_or xs j d) (slice_index_or xs k d) g (before j k d less hk hl)
      by_cases (inr from) =
          let same : i ≡ j = omega (arith, from, hj) in
          let first : x ≡ slice_index_or xs j d = e ∙ get_or_default xs i x d h ∙ ap (λ m. slice_index_or xs m d) same in
          let later : i + 1 ≤ k = omega (arith, from, hk) in
          subst (λ z. HasCrossing K c z (slice_index_or xs k d)) first
          (now (slice_index_or xs k d) (subst (λ zs. Contains zs (slice_index_or xs k d)) (sym is) (in_rest xs (i + 1) k d later hl)))

  pairs_step : pairs_sharing_x K (drop i xs) ≡ count_by (share_x K x) r + pairs_sharing_x K (drop (i + 1) xs)
  pairs_step =
      at_drop_more (pairs_sharing_x K) xs i x h ∙ ap (λ z. count_by (share_x K z) (drop (i + 1) xs) + pairs_sharing_x K (drop (i + 1) xs)) (sym e)
      ∙ ap (λ zs. count_by (share_x K x) zs + pairs_sharing_x K (drop (i + 1) xs)) (sym is)

  pub pairs_more : (m n k : ℕ) → n + pairs_sharing_x K (drop i xs) ≡ m + pairs_sharing_x K xs → k ≡ n + count_by (share_x K x) r
      → k + pairs_sharing_x K (drop (i + 1) xs) ≡ m + pairs_sharing_x K xs
  pairs_more m n k before now = omega (arith, before, now, pairs_step)

  pub pairs_within : (m n k : ℕ) → m ≤ n → n + pairs_sharing_x K (drop i xs) ≡ m + pairs_sharing_x K xs → (n ≤ k) × (k ≤ n + count_by (share_x K x) r)
      → (m ≤ k) × (k ≤ m + pairs_sharing_x K xs)
  pairs_within m n k low before now = (omega (arith, low, now.0), omega (arith, before, now.1, pairs_step))

module _ {A : Type 0} (K : OrderedRing A) where
  abbrev pub IsOneOf : Segment A → Point A → Type 0
  IsOneOf s p = (p ≡ s.from) ⊎ (p ≡ s.to)

  pub grows_first : (s : Segment A) (a b : List (Point A)) → Grows K (λ p. p ≡ s.from) a b → Grows K (IsOneOf s) a b
  grows_first s a b g = grows_by K (λ p. p ≡ s.from) (IsOneOf s) a b (λ p e. inl e) g

  pub grows_ends : (s : Segment A) (a b c : List (Point A)) → Grows K (λ p. p ≡ s.from) a b → Grows K (λ p. p ≡ s.to) b c → Grows K (IsOneOf s) a c
  grows_ends s a b c g k = grows_on K (IsOneOf s) a b c (grows_first s a b g) (grows_by K (λ p. p ≡ s.to) (IsOneOf s) b c (λ p e. inr e) k)

  pub grows_in : (s : Segment A) (xs : List (Segment A)) → Contains xs s → (a b c : List (Point A)) → Grows K (IsEndIn K xs) a b → Grows K (IsOneOf s) b c → Grows K (IsEndIn K xs) a c
  grows_in s xs there a b c g k = grows_on K (IsEndIn K xs) a b c g (grows_by K (IsOneOf s) (IsEndIn K xs) b c (λ p m. (s, there, m)) k)

  pub ends_more : (xs : List (Segment A)) (i : ℕ) (t : Segment A) → i < length xs → t ≡ slice_index_or xs i t → (b c : List (Point A)) → Grows K (IsOneOf t) b c
      → ((u : Segment A) → Contains (take i xs) u → HasEnds K b u) → HasEnds K c t → (u : Segment A) → Contains (take (i + 1) xs) u → HasEnds K c u
  ends_more xs i t h e b c g before now u there = by_cases (in_more xs i t u h e there)
    where
      by_cases : Contains (take i xs) u ⊎ (t ≡ u) → HasEnds K c u
      by_cases (inl n) = ends_kept K (IsOneOf t) b c u g (before u n)
      by_cases (inr q) = subst (HasEnds K c) q now
