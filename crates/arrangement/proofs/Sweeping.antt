-- Segments in the order of their left ends: those that share an x with one of them come next after it, and then none.
use mathlib.Core.Path.{◌≡◌, refl, sym, ap, subst, ◌∙◌}
use mathlib.Core.List.{List, [], ◌∷◌, map}
use mathlib.Core.Bool.{Bool, true, false}
use native.Mathlib.Omega.{arith}
use Rattle.std.proofs.Common.{inl, inr}
use Rattle.std.specs.Prelude.{◌⊎◌, ◌&&◌, if◌then◌else◌, IsTrue, ℕ, ◌+◌, ◌-◌, ◌<◌, ◌≤◌, ℤ, All, AllPairs, Contains, cond, count_by, drop, length, slice_index_or, take}
use Rattle.std.specs.List.{AllWithin}
use Rattle.std.specs.List.Sorted.{IsPartitionedBy, IsSorted}
use Rattle.std.specs.Ordering.{is_le, is_lt, ordering_then, ordering_reverse}
use Rattle.std.specs.declared.cmp.Ordering.{Ordering}
use Rattle.std.specs.declared.cmp.Ordering.TheVariants.{Less, Equal, Greater}
use Rattle.std.proofs.lemmas.List.{drop-map, get_or-drop, get_or-take, get_or_default, length-drop, length-map, length-take, length-take-le, take-append-drop, take-map}
use Rattle.std.proofs.lemmas.Bool.{cases_lt}
use Rattle.std.proofs.lemmas.List.Elements.{All-contains, All-drop, All-head, All-map, All-tail, All-take, Contains-append_cases, Contains-append_left}
use Rattle.std.proofs.lemmas.List.Sorted.{ranks_by, sorted_far}
use Rattle.std.proofs.lemmas.List.Sums.{sum_by-append, sum_by-cons}
use Rattle.algebra.specs.OrderedRing.{OrderedRing}
use Rattle.algebra.specs.Surd.{Surd}
use Rattle.algebra.specs.WholeSurds.{SurdNumbers}
use Rattle.plane.specs.declared.point.Point.{Point}
use Rattle.plane.specs.Points.{IsPoint, point_order}
use Rattle.plane.proofs.Order.{SomePoint, order_turned, points_total, x_turned}
use Rattle.scaled_plane.specs.declared.point.Segment.{Segment}
use Rattle.scaled_plane.specs.Counts.{left_end, right_end, share_x, x_order}
use Rattle.scaled_plane.proofs.DrawnSizes.{scaled_point}
use Rattle.arrangement.specs.Found.{Grows, HasCrossing, IsCrossedBy, IsUsable}
use Rattle.arrangement.specs.Spans.{IsSpan}
use Rattle.arrangement.proofs.Growing.{far_apart, grows_by}
use Rattle.arrangement.proofs.Listed.{in_seen, seen_in}
use Rattle.arrangement.proofs.Sharing.{Upto, up_chain, both_true, end_point}

pub x_of_order : (o u : Ordering) → IsTrue (is_le (ordering_then o u)) → IsTrue (is_le o)
x_of_order Less u h = refl
x_of_order Equal u h = refl
x_of_order Greater u h = absurd (cc)

second_false : (a b : Bool) → a ≡ true → (b && a) ≡ false → b ≡ false
second_false a true e h = absurd (let both : a ≡ false = h in cc)
second_false a false e h = refl

first_of_false : (a b : Bool) → b ≡ false → (a && b) ≡ false
first_of_false true b e = e
first_of_false false b e = refl

module _ {A : Type 0} (K : OrderedRing A) where
  turned_by : (a b : Point A) (o : Bool) → is_le (x_order K a b) ≡ o → Upto K (if o then a else b) (if o then b else a)
  turned_by a b true e = e
  turned_by a b false e = ap is_le (x_turned K a b ∙ ap ordering_reverse (greater_of (x_order K a b) e))
    where
      greater_of : (o : Ordering) → is_le o ≡ false → o ≡ Greater
      greater_of Less h = absurd (cc)
      greater_of Equal h = absurd (cc)
      greater_of Greater h = refl

  -- a segment's left end stands at or left of its right end
  pub left_to_right : (s : Segment A) → Upto K (left_end K s) (right_end K s)
  left_to_right s = turned_by s.from s.to (is_le (x_order K s.from s.to)) refl

  -- and shares an x with itself
  pub shares_itself : (s : Segment A) → share_x K s s ≡ true
  shares_itself s = both_true K (is_le (x_order K (left_end K s) (right_end K s))) (is_le (x_order K (left_end K s) (right_end K s))) (left_to_right s) (left_to_right s)

module _ {A : Type 0} {k : ℕ} {surd : A → Surd ℤ} (numbers : SurdNumbers k surd) {V : Type 0} (segment : V → Segment A) (left right : V → Point A) where
  abbrev pub AreSpans : List V → Type 0
  AreSpans spans = All (λ s. IsSpan numbers (segment s) (left s) (right s)) spans

  -- left ends don't fall
  abbrev pub Before : V → V → Type 0
  Before s t = IsTrue (is_le (point_order numbers.ring (left s) (left t)))

  pub usable_in : (spans : List V) → AreSpans spans → (s : Segment A) → Contains (map segment spans) s → IsUsable numbers s
  usable_in spans all s c =
      let r = seen_in segment spans s c in
      subst (IsUsable numbers) r.2 (All-contains (λ s. IsSpan numbers (segment s) (left s) (right s)) spans r.0 all r.1).usable

  module _ (s t : V) (hs : IsSpan numbers (segment s) (left s) (right s)) (ht : IsSpan numbers (segment t) (left t) (right t)) where
    left_point : IsPoint numbers.ring (left_end numbers.ring (segment s))
    left_point = end_point numbers.ring (is_le (x_order numbers.ring (segment s).from (segment s).to)) (segment s).from (segment s).to
        (scaled_point numbers (segment s).from hs.usable.from) (scaled_point numbers (segment s).to hs.usable.to)

    other_left : IsPoint numbers.ring (left_end numbers.ring (segment t))
    other_left = end_point numbers.ring (is_le (x_order numbers.ring (segment t).from (segment t).to)) (segment t).from (segment t).to
        (scaled_point numbers (segment t).from ht.usable.from) (scaled_point numbers (segment t).to ht.usable.to)

    other_right : IsPoint numbers.ring (right_end numbers.ring (segment t))
    other_right = end_point numbers.ring (is_le (x_order numbers.ring (segment t).from (segment t).to)) (segment t).to (segment t).from
        (scaled_point numbers (segment t).to ht.usable.to) (scaled_point numbers (segment t).from ht.usable.from)

    begins_first : Before s t → Upto numbers.ring (left_end numbers.ring (segment s)) (right_end numbers.ring (segment t))
    begins_first before =
        up_chain numbers.ring (left_end numbers.ring (segment s)) (left_end numbers.ring (segment t)) (right_end numbers.ring (segment t)) left_point other_left other_right
        (subst (λ p. Upto numbers.ring p (left_end numbers.ring (segment t))) hs.left_is
        (subst (λ p. Upto numbers.ring (left s) p) ht.left_is (x_of_order (x_order numbers.ring (left s) (left t)) _ before)))
        (left_to_right numbers.ring (segment t))

    -- of two in order, the second shares an x with the first exactly where it begins before that ends
    pub near_shares : Before s t → is_le (x_order numbers.ring (left t) (right s)) ≡ true → IsTrue (share_x numbers.ring (segment s) (segment t))
    near_shares before near =
        both_true numbers.ring (is_le (x_order numbers.ring (left_end numbers.ring (segment s)) (right_end numbers.ring (segment t))))
        (is_le (x_order numbers.ring (left_end numbers.ring (segment t)) (right_end numbers.ring (segment s))))
        (begins_first before)
        (subst (λ p. Upto numbers.ring p (right_end numbers.ring (segment s))) ht.left_is (subst (λ p. Upto numbers.ring (left t) p) hs.right_is near))

    pub far_shares_none : is_le (x_order numbers.ring (left t) (right s)) ≡ false → share_x numbers.ring (segment s) (segment t) ≡ false
    far_shares_none far =
        first_of_false (is_le (x_order numbers.ring (left_end numbers.ring (segment s)) (right_end numbers.ring (segment t))))
        (is_le (x_order numbers.ring (left_end numbers.ring (segment t)) (right_end numbers.ring (segment s))))
        (subst (λ p. is_le (x_order numbers.ring p (right_end numbers.ring (segment s))) ≡ false) ht.left_is
        (subst (λ p. is_le (x_order numbers.ring (left t) p) ≡ false) hs.right_is far))

-- ---- lists in order

not_later : (o : Ordering) → is_lt (ordering_reverse o) ≡ false → IsTrue (is_le o)
not_later Less h = refl
not_later Equal h = refl
not_later Greater h = absurd (cc)

-- what a sort ensures, for each two
pub sorted_pairs : {A : Type 0} (K : OrderedRing A) {V : Type 0} (left : V → Point A) (is_point : (v : V) → IsPoint K (left v)) (xs : List V)
    → IsSorted (λ s t. point_order K (left s) (left t)) xs → AllPairs (λ s t. IsTrue (is_le (point_order K (left s) (left t)))) xs
sorted_pairs {A} K {V} left is_point xs sorted i j d less within =
    let key : V → SomePoint K = λ v. (left v, is_point v) in
    let far = sorted_far (λ s t. is_lt (point_order K (left s) (left t))) (ranks_by (points_total K) key) xs sorted i j d (omega (arith, less)) within in
    not_later (point_order K (left (slice_index_or xs i d)) (left (slice_index_or xs j d)))
    (ap is_lt (sym (order_turned K (left (slice_index_or xs i d)) (left (slice_index_or xs j d)))) ∙ far)

pub pairs_rest : {X : Type 0} (R : X → X → Type 0) (xs : List X) (n : ℕ) → AllPairs R xs → AllPairs R (drop n xs)
pairs_rest R xs n pairs i j d less within =
    let short : j < length xs - n = subst (λ m. j < m) (length-drop n xs) within in
    subst (λ y. R (slice_index_or (drop n xs) i d) y) (sym (get_or-drop n xs j d))
    (subst (λ x. R x (slice_index_or xs (n + j) d)) (sym (get_or-drop n xs i d)) (pairs (n + i) (n + j) d (omega (arith, less)) (omega (arith, short))))

pub pairs_first : {X : Type 0} (R : X → X → Type 0) (xs : List X) (n : ℕ) (x : X) → n < length xs → x ≡ slice_index_or xs n x → AllPairs R xs → All (R x) (drop (n + 1) xs)
pairs_first R xs n x h e pairs k d within =
    let short : k < length xs - (n + 1) = subst (λ m. k < m) (length-drop (n + 1) xs) within in
    subst (R x) (sym (get_or-drop (n + 1) xs k d))
    (subst (λ z. R z (slice_index_or xs (n + 1 + k) d)) (sym (e ∙ get_or_default xs n x d h)) (pairs n (n + 1 + k) d (omega arith) (omega (arith, short))))

all_pass : {X : Type 0} (p : X → Bool) (xs : List X) → All (λ x. p x ≡ true) xs → count_by p xs ≡ length xs
all_pass p [] h = refl
all_pass p (x ∷ xs) h =
    let here : ◌≡◌ {A = ℕ} (cond (p x) 1 0) 1 = ap (λ b. cond b 1 0) (All-head (λ x. p x ≡ true) x xs h) in
    let rest = all_pass p xs (All-tail (λ x. p x ≡ true) x xs h) in
    let step : ◌≡◌ {A = ℕ} (count_by p (x ∷ xs)) (cond (p x) 1 0 + count_by p xs) = sum_by-cons (λ y. cond (p y) 1 0) x xs in
    omega (arith, step, here, rest)

none_pass : {X : Type 0} (p : X → Bool) (xs : List X) → All (λ x. p x ≡ false) xs → count_by p xs ≡ 0
none_pass p [] h = refl
none_pass p (x ∷ xs) h =
    let here : ◌≡◌ {A = ℕ} (cond (p x) 1 0) 0 = ap (λ b. cond b 1 0) (All-head (λ x. p x ≡ false) x xs h) in
    let rest = none_pass p xs (All-tail (λ x. p x ≡ false) x xs h) in
    let step : ◌≡◌ {A = ℕ} (count_by p (x ∷ xs)) (cond (p x) 1 0 + count_by p xs) = sum_by-cons (λ y. cond (p y) 1 0) x xs in
    omega (arith, step, here, rest)

-- a list of which the first n pass a test, and no others
pub count_of_front : {X : Type 0} (p : X → Bool) (xs : List X) (n : ℕ) → n ≤ length xs → All (λ x. p x ≡ true) (take n xs) → All (λ x. p x ≡ false) (drop n xs) → count_by p xs ≡ n
count_of_front p xs n within near far =
    let whole : count_by p xs ≡ count_by p (take n xs) + count_by p (drop n xs)
    = ap (count_by p) (sym (take-append-drop n xs)) ∙ sum_by-append (λ x. cond (p x) 1 0) (take n xs) (drop n xs) in
    let front = all_pass p (take n xs) near in
    let back = none_pass p (drop n xs) far in
    let size = length-take n xs in
    omega (arith, whole, front, back, size, within)

-- of spans in order, those that begin at or left of a point come first
pub parted : {A : Type 0} (K : OrderedRing A) {V : Type 0} (left : V → Point A) (is_point : (v : V) → IsPoint K (left v)) (xs : List V) (q : Point A) → IsPoint K q
    → AllPairs (λ s t. IsTrue (is_le (point_order K (left s) (left t)))) xs → IsPartitionedBy (λ t. is_le (x_order K (left t) q)) xs
parted {A} K {V} left is_point xs q hq pairs i j d le within h = by_cases (cases_lt i j)
  where
    by_cases : (i < j) ⊎ (j ≤ i) → is_le (x_order K (left (slice_index_or xs i d)) q) ≡ true
    by_cases (inl less) =
        up_chain K (left (slice_index_or xs i d)) (left (slice_index_or xs j d)) q (is_point (slice_index_or xs i d)) (is_point (slice_index_or xs j d)) hq
        (x_of_order (x_order K (left (slice_index_or xs i d)) (left (slice_index_or xs j d))) _ (pairs i j d less within)) h
    by_cases (inr from) =
        let same : j ≡ i = omega (arith, le, from) in
        subst (λ m. is_le (x_order K (left (slice_index_or xs m d)) q) ≡ true) same h

pub front_all : {X : Type 0} (P : X → Type 0) (xs : List X) (n : ℕ) → n ≤ length xs → AllWithin P xs 0 n → All P (take n xs)
front_all P xs n within h k d less =
    let short : k < n = let size = length-take-le n xs within in omega (arith, less, size) in
    subst P (sym (get_or-take n xs k d short)) (h k d (omega arith) short)

pub back_all : {X : Type 0} (P : X → Type 0) (xs : List X) (n : ℕ) → AllWithin P xs n (length xs) → All P (drop n xs)
back_all P xs n h k d less =
    let short : k < length xs - n = subst (λ m. k < m) (length-drop n xs) less in
    subst P (sym (get_or-drop n xs k d)) (h (n + k) d (omega arith) (omega (arith, short)))

pub in_front : {X : Type 0} (xs : List X) (n : ℕ) (x : X) → Contains (take n xs) x → Contains xs x
in_front xs n x c = subst (λ ys. Contains ys x) (take-append-drop n xs) (Contains-append_left (take n xs) (drop n xs) x c)

module _ {A : Type 0} {k : ℕ} {surd : A → Surd ℤ} (numbers : SurdNumbers k surd) {V : Type 0} (segment : V → Segment A) (left right : V → Point A)
    (s : Segment A) (rest : List V) (n : ℕ) where
  pub seen_front : (t : Segment A) → Contains (map segment (take n rest)) t → Contains (map segment rest) t
  seen_front t c =
      let r = seen_in segment (take n rest) t c in
      subst (Contains (map segment rest)) r.2 (in_seen segment rest r.0 (in_front rest n r.0 r.1))

  -- the points in which s crosses the first n
  pub grows_front : (a b : List (Point A)) → Grows numbers.ring (IsCrossedBy numbers.ring s (map segment (take n rest))) a b → Grows numbers.ring (IsCrossedBy numbers.ring s (map segment rest)) a b
  grows_front a b g =
      grows_by numbers.ring (IsCrossedBy numbers.ring s (map segment (take n rest))) (IsCrossedBy numbers.ring s (map segment rest)) a b
      (λ p m. (m.0, seen_front m.0 m.1, m.2)) g

  pub crossings_near : IsUsable numbers s → AreSpans numbers segment left right rest → All (λ t. share_x numbers.ring s (segment t) ≡ false) (drop n rest)
      → (points : List (Point A)) → ((t : Segment A) → Contains (map segment (take n rest)) t → HasCrossing numbers.ring points s t)
      → (t : Segment A) → Contains (map segment rest) t → HasCrossing numbers.ring points s t
  crossings_near hs all far points near t c = by_cases (Contains-append_cases (take n rest) (drop n rest) r.0 (subst (λ ys. Contains ys r.0) (sym (take-append-drop n rest)) r.1))
    where
      r : (x : V) × Contains rest x × (segment x ≡ t)
      r = seen_in segment rest t c

      by_cases : Contains (take n rest) r.0 ⊎ Contains (drop n rest) r.0 → HasCrossing numbers.ring points s t
      by_cases (inl front) = near t (subst (Contains (map segment (take n rest))) r.2 (in_seen segment (take n rest) r.0 front))
      by_cases (inr back) =
          far_apart numbers s t hs (usable_in numbers segment left right rest all t c) points
          (subst (λ u. share_x numbers.ring s u ≡ false) r.2 (All-contains (λ t. share_x numbers.ring s (segment t) ≡ false) (drop n rest) r.0 far back))

  pub count_near_is : n ≤ length rest → All (λ t. IsTrue (share_x numbers.ring s (segment t))) (take n rest) → All (λ t. share_x numbers.ring s (segment t) ≡ false) (drop n rest)
      → count_by (share_x numbers.ring s) (map segment rest) ≡ n
  count_near_is within near far =
      count_of_front (share_x numbers.ring s) (map segment rest) n (let same = length-map rest segment in omega (arith, within, same))
      (subst (All (λ t. share_x numbers.ring s t ≡ true)) (sym (take-map segment n rest)) (All-map (λ t. share_x numbers.ring s t ≡ true) segment (take n rest) near))
      (subst (All (λ t. share_x numbers.ring s t ≡ false)) (sym (drop-map segment n rest)) (All-map (λ t. share_x numbers.ring s t ≡ false) segment (drop n rest) far))

module _ {A : Type 0} {k : ℕ} {surd : A → Surd ℤ} (numbers : SurdNumbers k surd) {V : Type 0} (segment : V → Segment A) (left right : V → Point A) (s : V) (rest : List V) (n : ℕ)
    (hs : IsSpan numbers (segment s) (left s) (right s)) (all : AreSpans numbers segment left right rest) (first : All (λ t. Before numbers segment left right s t) rest) where
  pub near_share : All (λ t. is_le (x_order numbers.ring (left t) (right s)) ≡ true) (take n rest) → All (λ t. IsTrue (share_x numbers.ring (segment s) (segment t))) (take n rest)
  near_share near i d less =
      near_shares numbers segment left right s (slice_index_or (take n rest) i d) hs
      (All-take (λ s. IsSpan numbers (segment s) (left s) (right s)) n rest all i d less) (All-take (λ t. Before numbers segment left right s t) n rest first i d less) (near i d less)

  pub far_share_none : All (λ t. is_le (x_order numbers.ring (left t) (right s)) ≡ false) (drop n rest) → All (λ t. share_x numbers.ring (segment s) (segment t) ≡ false) (drop n rest)
  far_share_none far i d less =
      far_shares_none numbers segment left right s (slice_index_or (drop n rest) i d) hs
      (All-drop (λ s. IsSpan numbers (segment s) (left s) (right s)) n rest all i d less) (far i d less)
