-- Vertices from the last to the first, and a set of the points of those that were passed.
use mathlib.Core.Path.{◌≡◌, refl, sym, ap, subst, ◌∙◌}
use mathlib.Core.List.{List, [], ◌∷◌, map}
use mathlib.Core.Bool.{Bool, true, false, not, ◌||◌}
use Rattle.std.proofs.Common.{inl, inr, arith, ℕ, ◌<◌, ◌≤◌, ◌+◌, length}
use Rattle.std.specs.Prelude.{◌⊎◌, ℤ, All, Option, Some, None, slice_index_or}
use Rattle.std.specs.List.{list_any}
use Rattle.std.specs.Ordering.{is_eq}
use Rattle.std.specs.declared.cmp.Ordering.{Ordering}
use Rattle.std.specs.declared.cmp.Ordering.TheVariants.{Less, Equal, Greater}
use Rattle.std.specs.BTreeMap.{is_at}
use Rattle.std.proofs.lemmas.Bool.{cases_lt}
use Rattle.std.proofs.lemmas.List.{get_or_default}
use Rattle.algebra.specs.OrderedRing.{OrderedRing}
use Rattle.algebra.specs.Surd.{Surd}
use Rattle.algebra.specs.WholeSurds.{SurdNumbers}
use Rattle.plane.specs.declared.point.Point.{Point}
use Rattle.plane.specs.Points.{IsPoint, IsSamePoint, origin}
use Rattle.scaled_plane.specs.Drawn.{IsScaledPoint}
use Rattle.scaled_plane.proofs.DrawnSizes.{scaled_point}
use Rattle.plane.proofs.Lines.{same_through}
use Rattle.plane.proofs.Members.{in_cons, in_head, in_nil, in_tail}
use Rattle.plane.proofs.Order.{same_of_equal, equal_of_same}
use Rattle.scaled_plane.specs.Pieces.{point_at}
use Rattle.scaled_plane.specs.Scaling.{IsFirstOf}
use Rattle.arrangement.specs.Found.{Has, Grows}
use Rattle.arrangement.proofs.Adding.{by_point}
use Rattle.sheet_check.specs.Same.{AreSame, HasFrom, IsFirstFrom, IsRepeated}
use Rattle.sheet_check.specs.Passed.{IsFirstPair}

one_true : (a b : Bool) → (a || b) ≡ true → (a ≡ true) ⊎ (b ≡ true)
one_true true b e = inl refl
one_true false b e = inr e

pub is_equal : (o : Ordering) → is_eq o ≡ true → o ≡ Equal
is_equal Less e = absurd (cc)
is_equal Equal e = refl
is_equal Greater e = absurd (cc)

pub is_equal_back : (o : Ordering) → o ≡ Equal → is_eq o ≡ true
is_equal_back o e = ap is_eq e

pub not_yes : (b : Bool) → b ≡ true → b ≡ false → ⊥
not_yes b h k = cc

pub not_true : (a b : Bool) → a ≡ not b → a ≡ true → b ≡ false
not_true a true e h = absurd (cc)
not_true a false e h = refl

pub not_false : (a b : Bool) → a ≡ not b → a ≡ false → b ≡ true
not_false a true e h = refl
not_false a false e h = absurd (cc)

module _ {A : Type 0} (K : OrderedRing A) {V : Type 0} (f : V → Point A) where
  -- a point that a set contains
  pub some_has : (ks : List V) (k : V) → list_any (is_at (by_point K f k)) ks ≡ true → Has K (map f ks) (f k)
  some_has [] k e = absurd (cc)
  some_has (x ∷ xs) k e = elim (one_true (is_eq (by_point K f k x)) (list_any (is_at (by_point K f k)) xs) e) [
    | inl here ↦ (f x, in_head (f x) (map f xs), same_of_equal K (f k) (f x) (is_equal (by_point K f k x) here))
    | inr there ↦ let rest = some_has xs k there in (rest.0, in_tail (f x) (map f xs) rest.0 rest.1, rest.2)
  ]

  -- and one that it doesn't
  pub none_has : (ks : List V) (k : V) → list_any (is_at (by_point K f k)) ks ≡ false → ¬ Has K (map f ks) (f k)
  none_has [] k e h = in_nil h.0 h.1
  none_has (x ∷ xs) k e h = elim (in_cons (f x) (map f xs) h.0 h.1) [
    | inl q ↦ absurd (let yes : is_eq (by_point K f k x) ≡ true = is_equal_back (by_point K f k x) (equal_of_same K (f k) (f x) (subst (IsSamePoint K (f k)) (sym q) h.2)) in first_not (is_eq (by_point K f k x)) (list_any (is_at (by_point K f k)) xs) e yes)
    | inr later ↦ none_has xs k (second_not (is_eq (by_point K f k x)) (list_any (is_at (by_point K f k)) xs) e) (h.0, later, h.2)
  ]
    where
      first_not : (a b : Bool) → (a || b) ≡ false → a ≡ true → ⊥
      first_not true b h k = cc
      first_not false b h k = cc

      second_not : (a b : Bool) → (a || b) ≡ false → b ≡ false
      second_not true b h = absurd (cc)
      second_not false b h = h

-- what a set has once a point was put into it
pub only_new : {A : Type 0} (K : OrderedRing A) (old new : List (Point A)) (p point : Point A) → p ≡ point → Grows K (λ r. r ≡ p) old new
    → (q : Point A) → Has K new q → Has K old q ⊎ IsSamePoint K q point
only_new K old new p point is g q h = elim (g.only h.0 h.1) [
  | inl before ↦ inl (h.0, before, h.2)
  | inr fresh ↦ inr (subst (IsSamePoint K q) (fresh.0 ∙ is) h.2)
]

module _ {A : Type 0} (K : OrderedRing A) (vertices : List (Point A)) where
  pub none_yet : HasFrom K vertices (length vertices) []
  none_yet = record { every = λ u le less. absurd (omega (arith, le, less)); only = λ q h. absurd (in_nil h.0 h.1) }

  pub none_first : IsFirstFrom K vertices (length vertices) None
  none_first u le h = absurd (let less = h.1.0 in let within = h.1.1 in omega (arith, le, less, within))

  module _ (place : ℕ) (within : place < length vertices) (old new : List (Point A)) (p : Point A) (is : p ≡ point_at K vertices place) where
    -- one vertex more
    pub one_more : HasFrom K vertices (place + 1) old → ((q : Point A) → Has K old q → Has K new q) → Has K new p
        → ((q : Point A) → Has K new q → Has K old q ⊎ IsSamePoint K q p) → HasFrom K vertices place new
    one_more h kept here only = record {
      every = λ u le less. elim (cases_lt place u) [
        | inl later ↦ kept (point_at K vertices u) (h.every u (omega (arith, later)) less)
        | inr upto ↦ subst (Has K new) (is ∙ ap (point_at K vertices) (same_place u le upto)) here
      ];
      only = λ q has. elim (only q has) [
        | inl before ↦ let r = h.only q before in (r.0, (let far = r.1 in omega (arith, far)), r.2, r.3)
        | inr same ↦ (place, omega arith, within, subst (IsSamePoint K q) is same)
      ];
    }
      where
        same_place : (u : ℕ) → place ≤ u → u ≤ place → place ≡ u
        same_place u le upto = omega (arith, le, upto)

    -- a vertex that is there is repeated
    pub repeated_here : HasFrom K vertices (place + 1) old → Has K old p → IsRepeated K vertices place
    repeated_here h has =
        let r = h.only p has in
        (r.0, ((let far = r.1 in omega (arith, far)), r.2, subst (λ q. IsSamePoint K q (point_at K vertices r.0)) is r.3))

    pub not_repeated : ((u : ℕ) → u < length vertices → IsPoint K (point_at K vertices u)) → HasFrom K vertices (place + 1) old → ¬ Has K old p
        → ¬ IsRepeated K vertices place
    not_repeated points h none r =
        let v = r.0 in
        let far = r.1.0 in
        let there = h.every v (omega (arith, far)) r.1.1 in
        none (subst (Has K old) (sym is) (there.0, there.1, same_through K (point_at K vertices place) (point_at K vertices v) there.0 (points v r.1.1) r.1.2 there.2))

  pub first_here : (place : ℕ) → IsRepeated K vertices place → IsFirstFrom K vertices place (Some place)
  first_here place r = (omega arith, r, λ u le less. absurd (omega (arith, le, less)))

  pub first_kept : (place : ℕ) (found : Option ℕ) → ¬ IsRepeated K vertices place → IsFirstFrom K vertices (place + 1) found → IsFirstFrom K vertices place found
  first_kept place None none h = λ u le. elim (cases_lt place u) [
    | inl later ↦ h u (omega (arith, later))
    | inr upto ↦ subst (λ v. ¬ IsRepeated K vertices v) (let same : place ≡ u = omega (arith, le, upto) in same) none
  ]
  first_kept place (Some first) none h = (
    (let far = h.0 in omega (arith, far)),
    h.1,
    λ u le less. elim (cases_lt place u) [
      | inl later ↦ h.2 u (omega (arith, later)) less
      | inr upto ↦ subst (λ v. ¬ IsRepeated K vertices v) (let same : place ≡ u = omega (arith, le, upto) in same) none
    ],
  )

  -- the first repeated vertex, with the first after it that is the same
  pub first_pair : (low high : ℕ) → IsFirstFrom K vertices 0 (Some low) → IsFirstOf (AreSame K vertices low) high → IsFirstPair (AreSame K vertices) (low, high)
  first_pair low high h k = (k.0, λ u v less. by_cases u v less)
    where
      by_cases : (u v : ℕ) → (u < low) ⊎ ((u ≡ low) × (v < high)) → ¬ AreSame K vertices u v
      by_cases u v (inl less) same = h.2 u (omega arith) less (v, same)
      by_cases u v (inr e) same = k.1 v e.1 (subst (λ w. AreSame K vertices w v) e.0 same)

  pub no_pair : IsFirstFrom K vertices 0 None → (low high : ℕ) → ¬ AreSame K vertices low high
  no_pair h low high same = h low (omega arith) (high, same)

-- every vertex is a point, where all are scaled
pub points_of : {A : Type 0} {k : ℕ} {surd : A → Surd ℤ} (numbers : SurdNumbers k surd) (vertices : List (Point A)) → All (IsScaledPoint numbers) vertices
    → (u : ℕ) → u < length vertices → IsPoint numbers.ring (point_at numbers.ring vertices u)
points_of numbers vertices all u less = scaled_point numbers (point_at numbers.ring vertices u) (all u (origin numbers.ops) less)

-- what is read at a place is the vertex there
pub read_at : {A : Type 0} (K : OrderedRing A) (vertices : List (Point A)) (u : ℕ) (p : Point A) → u < length vertices → p ≡ slice_index_or vertices u p → p ≡ point_at K vertices u
read_at K vertices u p less e = e ∙ get_or_default vertices u p (origin K.ops) less
