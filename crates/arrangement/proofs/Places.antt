-- Vertices in order, by their places.
use mathlib.Core.Path.{◌≡◌, sym, ap, subst, ◌∙◌}
use mathlib.Core.List.{List}
use mathlib.Core.Logic.{◌⊎◌, inl, inr}
use Rattle.std.specs.Prelude.{ℕ, ◌<◌, Contains, length}
use Rattle.std.specs.List.Sorted.{IsStrictlySortedBy}
use Rattle.std.specs.Ordering.{ordering_reverse}
use Rattle.std.specs.declared.cmp.Ordering.TheVariants.{Less, Equal, Greater}
use Rattle.std.proofs.lemmas.Bool.{cases_order}
use Rattle.std.proofs.lemmas.List.{get_or_default}
use Rattle.std.proofs.lemmas.Map.Keys.{Less-from_sorted}
use Rattle.algebra.specs.OrderedRing.{OrderedRing}
use Rattle.plane.specs.declared.point.Point.{Point}
use Rattle.plane.specs.Points.{IsSamePoint, origin, point_order}
use Rattle.plane.proofs.Lines.{same_refl}
use Rattle.plane.proofs.Order.{equal_of_same, order_turned}
use Rattle.scaled_plane.specs.Pieces.{point_at}
use Rattle.arrangement.specs.Found.{Has}
use Rattle.arrangement.specs.Covers.{IsPlaceOf}
use Rattle.arrangement.proofs.OnLines.{Before}

module _ {A : Type 0} (K : OrderedRing A) (vertices : List (Point A)) where
  abbrev pub at : ℕ → Point A
  at v = point_at K vertices v

  -- what stands at a place
  pub at_there : (v : ℕ) → v < length vertices → Contains vertices (at v)
  at_there v h = (v, h, get_or_default vertices v (at v) (origin K.ops) h)

  -- and the place of what stands there
  pub place_in : (p : Point A) → Contains vertices p → (v : ℕ) × (v < length vertices) × (p ≡ at v)
  place_in p c = (c.0, c.1, sym c.2 ∙ get_or_default vertices c.0 p (origin K.ops) c.1)

  pub place_of_has : (p : Point A) → Has K vertices p → (v : ℕ) × IsPlaceOf K vertices p v
  place_of_has p h =
      let r = place_in h.0 h.1 in
      (r.0, record { in_range = r.1; same = subst (IsSamePoint K p) r.2 h.2 })

  module _ (sorted : IsStrictlySortedBy (point_order K) vertices) where
    -- places are in the order of the points
    pub before_at : (a b : ℕ) → a < b → b < length vertices → Before K (at a) (at b)
    before_at a b less within = Less-from_sorted (point_order K) vertices a b (origin K.ops) sorted less within

    pub places_before : (a b : ℕ) → a < length vertices → Before K (at a) (at b) → a < b
    places_before a b within less = by_cases (cases_order a b)
      where
        by_cases : (a ≡ b) ⊎ ((a < b) ⊎ (b < a)) → a < b
        by_cases (inl e) =
            absurd (let no : Less ≡ Equal = sym (subst (λ v. Before K (at a) (at v)) (sym e) less) ∙ equal_of_same K (at a) (at a) (same_refl K (at a)) in cc)
        by_cases (inr (inl h)) = h
        by_cases (inr (inr h)) =
            absurd (let no : Less ≡ Greater = sym less ∙ order_turned K (at b) (at a) ∙ ap ordering_reverse (before_at b a h within) in cc)

    pub one_place : (a b : ℕ) → a < length vertices → b < length vertices → IsSamePoint K (at a) (at b) → a ≡ b
    one_place a b ha hb same = by_cases (cases_order a b)
      where
        by_cases : (a ≡ b) ⊎ ((a < b) ⊎ (b < a)) → a ≡ b
        by_cases (inl e) = e
        by_cases (inr (inl h)) = absurd (let no : Less ≡ Equal = sym (before_at a b h hb) ∙ equal_of_same K (at a) (at b) same in cc)
        by_cases (inr (inr h)) =
            absurd (let no : Greater ≡ Equal = sym (order_turned K (at b) (at a) ∙ ap ordering_reverse (before_at b a h ha)) ∙ equal_of_same K (at a) (at b) same in cc)
