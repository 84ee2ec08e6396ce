-- What stands in a list, by its place.
use mathlib.Core.Path.{◌≡◌, refl, sym, subst}
use mathlib.Core.List.{List, [], ◌∷◌}
use mathlib.Core.Logic.{inl, inr}
use Prim.Native.Nat.{ℕ}
use Rattle.std.specs.Prelude.{Some, Contains, length}
use Rattle.std.specs.List.{slice_get}
use Rattle.std.proofs.lemmas.Option.{slice_get_within, get_or_from_slice_get, slice_get_read}
use Rattle.plane.proofs.Members.{in_head, in_tail}
use Rattle.algebra.specs.OrderedRing.{OrderedRing}
use Rattle.layers.specs.Sheets.{FaceSide, FoldedSheet, HasFaces}

pub is_head : {X : Type 0} (x : X) (xs : List X) (y : X) → x ≡ y → Contains (x ∷ xs) y
is_head x xs y e = subst (Contains (x ∷ xs)) e (in_head x xs)

pub at_place : {X : Type 0} (xs : List X) (k : ℕ) (x : X) → slice_get xs k ≡ Some x → Contains xs x
at_place xs k x e = (k, slice_get_within xs k x e, get_or_from_slice_get xs k x x e)

pub stands_at : {X : Type 0} (xs : List X) (x : X) (h : Contains xs x) → slice_get xs h.0 ≡ Some x
stands_at xs x h = slice_get_read xs (length xs) h.0 x refl h.1 (sym h.2)

second_of : {X : Type 0} (x y : X) → Contains (x ∷ y ∷ []) y
second_of x y = in_tail x (y ∷ []) y (in_head y [])

abbrev side_at : ℕ → ℕ → FaceSide
side_at f c = record { face = f; corner = c }

-- the two sides of an edge are among its sides
module _ {A : Type 0} {K : OrderedRing A} {sheet : FoldedSheet A} where
  pub first_in : {e f g : ℕ} (h : HasFaces K sheet e f g) → Contains h.edge.sides (record { face = f; corner = h.first })
  first_in {e} {f} {g} h = elim h.either [
    | inl a ↦ subst (λ xs. Contains xs (side_at f h.first)) (sym a) (in_head (side_at f h.first) (side_at g h.second ∷ []))
    | inr b ↦ subst (λ xs. Contains xs (side_at f h.first)) (sym b) (second_of (side_at g h.second) (side_at f h.first))
  ]

  pub second_in : {e f g : ℕ} (h : HasFaces K sheet e f g) → Contains h.edge.sides (record { face = g; corner = h.second })
  second_in {e} {f} {g} h = elim h.either [
    | inl a ↦ subst (λ xs. Contains xs (side_at g h.second)) (sym a) (second_of (side_at f h.first) (side_at g h.second))
    | inr b ↦ subst (λ xs. Contains xs (side_at g h.second)) (sym b) (in_head (side_at g h.second) (side_at f h.first ∷ []))
  ]
