-- the strip of squares can be written as a file
use Rattle.std.proofs.Common.{◌≡◌, ◌∙◌, ap, ℕ, zero, suc, ℤ, pos, negsuc, ◌+◌, ◌*◌, ◌-◌, ◌%◌, ◌<◌, ◌≤◌, ◌^◌, ◌≤ℤ◌, List, [], ◌∷◌, ◌++◌, length, map, refl, sym, subst, Bool, true, false, Some, arith}
use Rattle.std.proofs.lemmas.Int.{ints}
use Rattle.std.proofs.lemmas.List.{flat_map_more, length-append}
use Rattle.std.proofs.lemmas.List.FromFn.{length-map-range_with_len}
use Rattle.std.specs.Prelude.{◌==◌, if◌then◌else◌}
use Rattle.std.specs.List.{AllByRecursion, flat_map, range_with_len}
use Rattle.fold_base.specs.declared.letter.Letter.TheVariants.{Border}
use Rattle.fold_keys.specs.declared.value.FaceOrder.{FaceOrder}
use Rattle.number_rules.specs.ExactText.{AreShort}
use Rattle.rational.specs.Rationals.{rational_numbers, rational_parts}
use Rattle.scaled_plane.specs.declared.drawing.Edge.{Edge}
use Rattle.crease_input.specs.Files.{HasCornersWithin, HasShortParts, IsFileable, IsOrderWithin}
use Rattle.crease_input.specs.Lines.{IsEdgeWithin}
use Rattle.crease_input.specs.Strips.{along, corner_at, crease_at, edge_of, order_of, orders_on, row_at, side_of, square_at, strip_coords, strip_edges, strip_ends, strip_faces, strip_orders}

-- ---- lists made of numbers

all_both : {X : Type 0} (P : X → Type 0) (xs ys : List X) → AllByRecursion P xs → AllByRecursion P ys
    → AllByRecursion P (xs ++ ys)
all_both P [] ys first second = second
all_both P (x ∷ xs) ys first second = (first.0, all_both P xs ys first.1 second)

-- what is made of each number from `a` on
all_made : {X : Type 0} (P : X → Type 0) (f : ℕ → X) (a n : ℕ) → ((i : ℕ) → a ≤ i → i < a + n → P (f i))
    → AllByRecursion P (map f (range_with_len a n))
all_made P f a zero each = tt
all_made P f a (suc n) each = (
  each a (omega arith) (omega arith),
  all_made P f (a + 1) n (λ i from below. each i (omega (arith, from)) (omega (arith, below))),
)

-- and of the lists that are made of them
all_in_each : {X : Type 0} (P : X → Type 0) (f : ℕ → List X) (a n : ℕ)
    → ((i : ℕ) → i < a + n → AllByRecursion P (f i)) → AllByRecursion P (flat_map f (range_with_len a n))
all_in_each P f a zero each = tt
all_in_each P f a (suc n) each =
    all_both P (f a) (flat_map f (range_with_len (a + 1) n)) (each a (omega arith))
    (all_in_each P f (a + 1) n (λ i below. each i (omega (arith, below))))

-- lists of so many at most
few_in_all : {X : Type 0} (f : ℕ → List X) (most a n : ℕ) → ((i : ℕ) → length (f i) ≤ most)
    → length (flat_map f (range_with_len a n)) ≤ n * most
few_in_all f most a zero each = omega arith
few_in_all f most a (suc n) each =
    let joined = length-append (f a) (flat_map f (range_with_len (a + 1) n)) in
    let here = each a in
    let rest = few_in_all f most (a + 1) n each in
    let total : suc n * most ≡ most + n * most = omega arith in
    omega (arith, joined, here, rest, total)

range_more : (a n last : ℕ) → a + n ≡ last → range_with_len a (suc n) ≡ range_with_len a n ++ last ∷ []
range_more a zero last is = let same : a ≡ last = omega (arith, is) in (λ i. same i ∷ [])
range_more a (suc n) last is = ap (λ is. a ∷ is) (range_more (a + 1) n last (omega (arith, is)))

-- one more of the lists
pub lists_more : {X : Type 0} (f : ℕ → List X) (n : ℕ)
    → flat_map f (range_with_len 0 n) ++ f n ≡ flat_map f (range_with_len 0 (n + 1))
lists_more f n =
    let next : suc n ≡ n + 1 = omega arith in
    flat_map_more f [] (range_with_len 0 n) n ∙ ap (flat_map f) (sym (range_more 0 n n (omega arith)))
    ∙ ap (λ m. flat_map f (range_with_len 0 m)) next

-- ---- the strip

short_whole : (n : ℕ) → n ≤ 501 → AreShort (rational_parts (rational_numbers.int (pos n)))
short_whole n within =
    subst AreShort (sym (rational_numbers.whole_is (pos n))) (record {
      a = omega (arith, ints, within);
      b = omega (arith, ints);
      q = omega (arith, ints);
    })

short_row : (n height : ℕ) → n ≤ 500 → height ≤ 1 → AllByRecursion (HasShortParts rational_parts) (row_at n height)
short_row n height few low =
    all_made (HasShortParts rational_parts) (λ i. corner_at i height) 0 (n + 1)
    (λ i from below. (short_whole i (omega (arith, below, few)), short_whole height (omega (arith, low))))

count_row : (n height : ℕ) → length (row_at n height) ≡ n + 1
count_row n height = length-map-range_with_len (λ i. corner_at i height) 0 (n + 1)

count_coords : (n : ℕ) → length (strip_coords n) ≡ 2 * n + 2
count_coords n =
    let both = length-append (row_at n 0) (row_at n 1) in
    let low = count_row n 0 in
    let high = count_row n 1 in omega (arith, both, low, high)

count_along : (n first : ℕ) → length (along n first) ≡ n
count_along n first = length-map-range_with_len (λ i. edge_of (first + i) (first + i + 1) Border) 0 n

abbrev ends_of : ℕ → List Edge
ends_of n = edge_of 0 (n + 1) Border ∷ edge_of n (2 * n + 1) Border ∷ map (crease_at n) (range_with_len 1 (n - 1))

few_edges : (n : ℕ) → n ≤ 500 → length (strip_edges n) < 2 ^ 32
few_edges n few =
    let all : length (strip_edges n) ≡ length (along n 0 ++ along n (n + 1)) + length (ends_of n) =
    length-append (along n 0 ++ along n (n + 1)) (ends_of n) in
    let rows : length (along n 0 ++ along n (n + 1)) ≡ length (along n 0) + length (along n (n + 1)) =
    length-append (along n 0) (along n (n + 1)) in
    let made : length (map (crease_at n) (range_with_len 1 (n - 1))) ≡ n - 1 =
    length-map-range_with_len (crease_at n) 1 (n - 1) in
    let last : length (ends_of n) ≡ suc (suc (n - 1)) = ap (λ k. suc (suc k)) made in
    let total : length (strip_edges n) ≡ (n + n) + suc (suc (n - 1)) =
    all ∙ (λ i. rows i + last i) ∙ (λ i. (count_along n 0 i + count_along n (n + 1) i) + suc (suc (n - 1))) in
    subst (λ k. k < 2 ^ 32) (sym total) (omega (arith, few))

module _ (n : ℕ) (some : 1 ≤ n) where
  edges_within : AllByRecursion (IsEdgeWithin (2 * n + 2)) (strip_edges n)
  edges_within =
      let P : Edge → Type 0 = IsEdgeWithin (2 * n + 2) in
      let creases = map (crease_at n) (range_with_len 1 (n - 1)) in
      let ends = edge_of 0 (n + 1) Border ∷ edge_of n (2 * n + 1) Border ∷ creases in
      let low : AllByRecursion P (along n 0) =
      all_made P (λ i. edge_of (0 + i) (0 + i + 1) Border) 0 n (λ i from below. (omega (arith, below), omega (arith, below))) in
      let high : AllByRecursion P (along n (n + 1)) =
      all_made P (λ i. edge_of (n + 1 + i) (n + 1 + i + 1) Border) 0 n (λ i from below. (omega (arith, below), omega (arith, below))) in
      let between : AllByRecursion P creases =
      all_made P (crease_at n) 1 (n - 1) (λ i from below. (omega (arith, below), omega (arith, below))) in
      let at_ends : AllByRecursion P ends =
      ((omega (arith, some), omega (arith, some)), ((omega (arith, some), omega (arith, some)), between)) in
      all_both P (along n 0 ++ along n (n + 1)) ends (all_both P (along n 0) (along n (n + 1)) low high) at_ends

  squares_within : AllByRecursion (HasCornersWithin (2 * n + 2)) (strip_faces n)
  squares_within = all_made (HasCornersWithin (2 * n + 2)) (square_at n) 0 n (λ i from below. (
    omega arith,
    (omega (arith, below), (omega (arith, below), (omega (arith, below), (omega (arith, below), tt)))),
  ))

side_within : (i : ℕ) → (negsuc 0 ≤ℤ side_of i) × (side_of i ≤ℤ pos 1)
side_within i = at (i % 2 == 0)
  where
    at : (even : Bool) → (negsuc 0 ≤ℤ (if even then pos 1 else negsuc 0)) × ((if even then pos 1 else negsuc 0) ≤ℤ pos 1)
    at true = (omega (arith, ints), omega (arith, ints))
    at false = (omega (arith, ints), omega (arith, ints))

orders_within : (n : ℕ) → AllByRecursion (IsOrderWithin n) (strip_orders n)
orders_within n =
    all_in_each (IsOrderWithin n) (orders_on n) 0 n (λ i inside.
    all_made (IsOrderWithin n) (order_of i) (i + 1) (n - (i + 1)) (λ j from below.
    record { first = omega (arith, from, below, inside); second = omega (arith, inside); side = side_within i }))

few_orders : (n : ℕ) → n ≤ 500 → length (strip_orders n) < 2 ^ 32
few_orders n few =
    let each : (i : ℕ) → length (orders_on n i) ≤ 500 =
    (λ i. let made = length-map-range_with_len (order_of i) (i + 1) (n - (i + 1)) in omega (arith, made, few)) in
    let all = few_in_all (orders_on n) 500 0 n each in omega (arith, all, few)

pub fileable_strip : (n : ℕ) → 1 ≤ n → n ≤ 500
    → IsFileable rational_parts (strip_ends n) (Some (strip_faces n)) (Some (strip_orders n))
fileable_strip n some few =
    let vertices = count_coords n in
    let faces : length (strip_faces n) ≡ n = length-map-range_with_len (square_at n) 0 n in
    record {
      coords = all_both (HasShortParts rational_parts) (row_at n 0) (row_at n 1)
          (short_row n 0 few (omega arith)) (short_row n 1 few (omega arith));
      few_vertices = omega (arith, vertices, few);
      few_edges = few_edges n few;
      edges = subst (λ count. AllByRecursion (IsEdgeWithin count) (strip_edges n)) (sym vertices) (edges_within n some);
      faces_fit = (
        omega (arith, faces, few),
        subst (λ count. AllByRecursion (HasCornersWithin count) (strip_faces n)) (sym vertices) (squares_within n some),
      );
      orders_fit = (
        few_orders n few,
        subst (λ count. AllByRecursion (IsOrderWithin count) (strip_orders n)) (sym faces) (orders_within n),
      );
    }
