-- Edges that agree with entries one by one.
use mathlib.Core.Path.{◌≡◌, refl, sym, ap, subst, ◌∙◌}
use mathlib.Core.List.{List, [], ◌∷◌, map}
use mathlib.Core.Logic.{◌⊎◌, inl, inr}
use native.Mathlib.Omega.{arith}
use Rattle.std.specs.Prelude.{ℕ, ◌+◌, ◌*◌, ◌<◌, ◌≤◌, Contains, Some, length, slice_get}
use Rattle.std.specs.List.{AllByRecursion, AllZip}
use Rattle.std.specs.List.Sorted.{IsStrictlySortedBy}
use Rattle.std.specs.Map.{keys_of}
use Rattle.std.specs.Ordering.{nat_cmp, ordering_then}
use Rattle.std.specs.Cmp.{nat_cmp_is}
use Rattle.std.specs.declared.cmp.Ordering.TheVariants.{Less, Equal, Greater}
use Rattle.std.proofs.lemmas.Bool.{cases_order}
use Rattle.std.proofs.lemmas.List.{length-map}
use Rattle.std.proofs.lemmas.List.Elements.{All-from_recursion}
use Rattle.std.proofs.lemmas.Map.Views.{length-le_from_below}
use Rattle.std.proofs.lemmas.Option.{get_or_from_slice_get, slice_get_read, slice_get_within}
use Rattle.plane.proofs.Members.{in_cons, in_head, in_nil, in_tail}
use Rattle.scaled_plane.specs.declared.drawing.Edge.{Edge}
use Rattle.scaled_plane.specs.Pieces.{edge_order}
use Rattle.arrangement.specs.declared.covers.Cover.{Cover}
use Rattle.arrangement.specs.Covers.{IsEdgeOf, piece_order}

-- elements by their places
pub place_of_in : {X : Type 0} (xs : List X) (x : X) → Contains xs x → (i : ℕ) × (slice_get xs i ≡ Some x)
place_of_in xs x c = (c.0, slice_get_read xs (length xs) c.0 x refl c.1 (sym c.2))

pub in_of_place : {X : Type 0} (xs : List X) (i : ℕ) (x : X) → slice_get xs i ≡ Some x → Contains xs x
in_of_place xs i x e = (i, slice_get_within xs i x e, get_or_from_slice_get xs i x x e)

module _ {X Y : Type 0} (R : X → Y → Type 0) where
  -- what agrees with an element
  pub of_second : (xs : List X) (ys : List Y) → AllZip R xs ys → (y : Y) → Contains ys y → (x : X) × Contains xs x × R x y
  of_second [] [] h y c = absurd (in_nil y c)
  of_second [] (v ∷ vs) h y c = absurd h
  of_second (u ∷ us) [] h y c = absurd h
  of_second (u ∷ us) (v ∷ vs) h y c = elim (in_cons v vs y c) [
    | inl e ↦ (u, in_head u us, subst (R u) e h.0)
    | inr n ↦ let r = of_second us vs h.1 y n in (r.0, in_tail u us r.0 r.1, r.2)
  ]

  pub of_first : (xs : List X) (ys : List Y) → AllZip R xs ys → (x : X) → Contains xs x → (y : Y) × Contains ys y × R x y
  of_first [] [] h x c = absurd (in_nil x c)
  of_first [] (v ∷ vs) h x c = absurd h
  of_first (u ∷ us) [] h x c = absurd h
  of_first (u ∷ us) (v ∷ vs) h x c = elim (in_cons u us x c) [
    | inl e ↦ (v, in_head v vs, subst (λ z. R z v) e h.0)
    | inr n ↦ let r = of_first us vs h.1 x n in (r.0, in_tail v vs r.0 r.1, r.2)
  ]

  -- each with what a function makes of what agrees with it
  pub with_made : {Z : Type 0} (S : Y → Z → Type 0) (f : X → Z) (xs : List X) (ys : List Y) → AllZip R xs ys → ((x : X) (y : Y) → Contains xs x → R x y → S y (f x)) → AllZip S ys (map f xs)
  with_made S f [] [] h g = tt
  with_made S f [] (v ∷ vs) h g = absurd h
  with_made S f (u ∷ us) [] h g = absurd h
  with_made S f (u ∷ us) (v ∷ vs) h g = (g u v (in_head u us) h.0, with_made S f us vs h.1 (λ x y c r. g x y (in_tail u us x c) r))

  pub weaker_within : (S : X → Y → Type 0) (xs : List X) (ys : List Y) → AllZip R xs ys → ((x : X) (y : Y) → Contains xs x → R x y → S x y) → AllZip S xs ys
  weaker_within S [] [] h g = tt
  weaker_within S [] (v ∷ vs) h g = absurd h
  weaker_within S (u ∷ us) [] h g = absurd h
  weaker_within S (u ∷ us) (v ∷ vs) h g = (g u v (in_head u us) h.0, weaker_within S us vs h.1 (λ x y c r. g x y (in_tail u us x c) r))

-- ---- order

order_is : (p q : (ℕ × ℕ) × Cover) (e f : Edge) → IsEdgeOf p e → IsEdgeOf q f → edge_order e f ≡ piece_order p.0 q.0
order_is p q e f h k = λ i. ordering_then (nat_cmp (h.from_is i) (k.from_is i)) (nat_cmp (h.to_is i) (k.to_is i))

after : (p : (ℕ × ℕ) × Cover) (e : Edge) (ps : List ((ℕ × ℕ) × Cover)) (es : List Edge) → IsEdgeOf p e → AllZip IsEdgeOf ps es → AllByRecursion (λ q. piece_order p.0 q ≡ Less) (keys_of ps)
    → AllByRecursion (λ f. edge_order e f ≡ Less) es
after p e [] [] h z a = tt
after p e [] (f ∷ fs) h z a = absurd z
after p e (q ∷ qs) [] h z a = tt
after p e (q ∷ qs) (f ∷ fs) h z a = (order_is p q e f h z.0 ∙ a.0, after p e qs fs h z.1 a.1)

-- edges are in the order of their entries
pub edges_sorted : (ps : List ((ℕ × ℕ) × Cover)) (es : List Edge) → AllZip IsEdgeOf ps es → IsStrictlySortedBy piece_order (keys_of ps) → IsStrictlySortedBy edge_order es
unfolding IsStrictlySortedBy
edges_sorted [] [] z h = tt
edges_sorted [] (f ∷ fs) z h = absurd z
edges_sorted (q ∷ qs) [] z h = tt
edges_sorted (q ∷ qs) (f ∷ fs) z h = (after q f qs fs z.0 z.1 h.0, edges_sorted qs fs z.1 h.1)

-- ---- how many there are

first_or_both : (a b c d : ℕ) → ordering_then (nat_cmp a b) (nat_cmp c d) ≡ Less → (a < b) ⊎ ((a ≡ b) × (c < d))
first_or_both a b c d h = elim (cases_order a b) [
  | inl e ↦ elim (cases_order c d) [
    | inl f ↦ absurd (let no : Less ≡ Equal = sym h ∙ ap (λ o. ordering_then o (nat_cmp c d)) (sym (nat_cmp_is a b Equal e)) ∙ sym (nat_cmp_is c d Equal f) in cc)
    | inr (inl less) ↦ inr (e, less)
    | inr (inr more) ↦ absurd (let no : Less ≡ Greater = sym h ∙ ap (λ o. ordering_then o (nat_cmp c d)) (sym (nat_cmp_is a b Equal e)) ∙ sym (nat_cmp_is c d Greater more) in cc)
  ]
  | inr (inl less) ↦ inl less
  | inr (inr more) ↦ absurd (let no : Less ≡ Greater = sym h ∙ ap (λ o. ordering_then o (nat_cmp c d)) (sym (nat_cmp_is a b Greater more)) in cc)
]

-- two edges that aren't one
pub edges_differ : (e f : Edge) → edge_order e f ≡ Less → ¬ ((e.from ≡ f.from) × (e.to ≡ f.to))
edges_differ e f h same = elim (first_or_both e.from f.from e.to f.to h) [
  | inl less ↦ let x = same.0 in omega (arith, less, x)
  | inr both ↦ let x = both.1 in let y = same.1 in omega (arith, x, y)
]

number : Edge → ℕ
number e = e.from * 16384 + e.to

numbers_after : (e : Edge) (es : List Edge) → e.to < 16384 → AllByRecursion (λ f. edge_order e f ≡ Less) es → ((f : Edge) → Contains es f → f.to < 16384) → AllByRecursion (λ n. nat_cmp (number e) n ≡ Less) (map number es)
unfolding number
numbers_after e [] low a within = tt
numbers_after e (f ∷ fs) low a within =
    let bound = within f (in_head f fs) in
    let less : e.from * 16384 + e.to < f.from * 16384 + f.to = elim (first_or_both e.from f.from e.to f.to a.0) [
      | inl less ↦ omega (arith, less, low)
      | inr both ↦ let x = both.0 in let y = both.1 in omega (arith, x, y)
    ] in
    (sym (nat_cmp_is (e.from * 16384 + e.to) (f.from * 16384 + f.to) Less less), numbers_after e fs low a.1 (λ g c. within g (in_tail f fs g c)))

numbers_sorted : (es : List Edge) → IsStrictlySortedBy edge_order es → ((f : Edge) → Contains es f → f.to < 16384) → IsStrictlySortedBy nat_cmp (map number es)
unfolding IsStrictlySortedBy
numbers_sorted [] h within = tt
numbers_sorted (e ∷ es) h within = (numbers_after e es (within e (in_head e es)) h.0 (λ f c. within f (in_tail e es f c)), numbers_sorted es h.1 (λ f c. within f (in_tail e es f c)))

numbers_below : (es : List Edge) → ((f : Edge) → Contains es f → (f.from < 16384) × (f.to < 16384)) → AllByRecursion (λ n. n < 268435456) (map number es)
unfolding number
numbers_below [] within = tt
numbers_below (e ∷ es) within =
    let bound = within e (in_head e es) in
    let x = bound.0 in
    let y = bound.1 in
    (omega (arith, x, y), numbers_below es (λ f c. within f (in_tail e es f c)))

-- edges in order between 16,384 vertices are fewer than 2^30
pub few_edges : (es : List Edge) → IsStrictlySortedBy edge_order es → ((f : Edge) → Contains es f → (f.from < 16384) × (f.to < 16384)) → length es ≤ 268435456
few_edges es sorted within =
    let most = length-le_from_below 268435456 (map number es) (numbers_sorted es sorted (λ f c. (within f c).1)) (All-from_recursion (λ n. n < 268435456) (map number es) (numbers_below es within)) in
    let same = length-map es number in
    omega (arith, most, same)
