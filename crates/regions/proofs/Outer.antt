-- The first piece of the outer walk has no other one at its left.
use Prim.Native.Nat.{ℕ}
use mathlib.Core.Path.{◌≡◌, refl, sym, ap, subst, ◌∙◌}
use mathlib.Core.List.{List, [], ◌∷◌}
use mathlib.Core.Logic.{◌⊎◌, inl, inr}
use Rattle.std.specs.Prelude.{length, ◌<◌, IsTrue}
use Rattle.std.specs.Ordering.{is_ge, is_le, ordering_then, ordering_reverse}
use Rattle.std.specs.declared.cmp.Ordering.{Ordering}
use Rattle.std.specs.declared.cmp.Ordering.TheVariants.{Less, Equal, Greater}
use Rattle.algebra.specs.OrderedRing.{OrderedRing}
use Rattle.algebra.proofs.Solvers.{reads, sign_from, known, no_sign, negative, not_negative, not_positive, given, sum, product}
use Rattle.plane.specs.declared.point.Point.{Point}
use Rattle.plane.specs.Points.{x_from, y_from, point_order, IsPoint}
use Rattle.plane.specs.Lines.{side}
use Rattle.plane.specs.Directions.{Direction, direction, turn, west, IsClockwise}
use Rattle.plane.proofs.First.{same_or_not}
use Rattle.plane.proofs.Lines.{at_second}
use Rattle.plane.proofs.Order.{x_turned, y_turned}
use Rattle.plane.proofs.Signs.{greater_ge, equal_ge}
use Rattle.scaled_plane.specs.declared.drawing.Edge.{Edge}
use Rattle.scaled_plane.specs.Walks.{IsOutside, IsDirectedPiece}
use Rattle.regions.specs.Faces.{IsPlane as IsPlaneDrawing}
use Rattle.regions.proofs.Drawings.{Piece, piece}
use Rattle.regions.proofs.Outermost.{IsLeast, IsOuter}
use Rattle.regions.proofs.Pieces.{place, ps, directed, directed_piece, vertex_point}
use Rattle.regions.proofs.Following.{turn_side}

module _ {A : Type 0} (K : OrderedRing A) where
  less_not_greater : {s : Ordering} → s ≡ Less → ¬ (s ≡ Greater)
  less_not_greater h k = absurd (cc)

  equal_not_greater : {s : Ordering} → s ≡ Equal → ¬ (s ≡ Greater)
  equal_not_greater h k = absurd (cc)

  -- of two directions that don't lead west, the first clockwise from the west has the other not at its left
  none_left : (d e : Direction A) → IsTrue (is_ge (K.sign d.x)) → IsTrue (is_ge (K.sign e.x)) → IsClockwise K (west K.ops) d e → ¬ (K.sign (turn K.ops d e) ≡ Greater)
  none_left d e hd he (inl c) k = less_not_greater c.1 k
  none_left d e hd he (inr (inl c)) k = less_not_greater c.0 k
  none_left d e hd he (inr (inr c)) k =
      let low : IsTrue (is_le (K.sign (turn K.ops d e)))
      = sign_from K (d.x ∷ d.y ∷ e.x ∷ e.y ∷ []) (known negative (search reads depth 40 fits 50000) c.1 (known negative (search reads depth 40 fits 50000) c.0 (known not_negative (search reads depth 40 fits 50000) hd (known not_negative (search reads depth 40 fits 50000) he no_sign))))
      not_positive (search reads depth 40 fits 50000) (sum (product (given 2) (given 1)) (product (given 0) (given 3))) tt tt in
      absurd (cc)

  not_west : (o : Ordering) {p : Ordering} → (o ≡ Greater) ⊎ ((o ≡ Equal) × (p ≡ Greater)) → IsTrue (is_ge o)
  not_west o (inl h) = greater_ge h
  not_west o (inr h) = equal_ge h.0

module _ {A : Type 0} (K : OrderedRing A) (vertices : List (Point A)) (edges : List Edge) (h : IsPlaneDrawing K vertices edges) where
  abbrev at : ℕ → Point A
  at v = place K vertices edges v

  abbrev all : List Piece
  all = ps K vertices edges

  pub in_range : (u v : ℕ) → IsDirectedPiece edges u v → u < length vertices
  in_range u v p = elim p.2 [
    | inl s ↦ subst (λ (x : ℕ). x < length vertices) s.0 (h.ends p.0 p.1).0
    | inr s ↦ subst (λ (x : ℕ). x < length vertices) s.1 (h.ends p.0 p.1).1
  ]

  pub directed_end : (u v : ℕ) → IsDirectedPiece edges u v → v < length vertices
  directed_end u v p = elim p.2 [
    | inl s ↦ subst (λ (x : ℕ). x < length vertices) s.1 (h.ends p.0 p.1).1
    | inr s ↦ subst (λ (x : ℕ). x < length vertices) s.0 (h.ends p.0 p.1).0
  ]

  pub other_end : (u x : ℕ) → IsDirectedPiece edges u x → ¬ (x ≡ u)
  other_end u x p e = elim p.2 [
    | inl s ↦ (h.ends p.0 p.1).2 (s.0 ∙ sym e ∙ sym s.1)
    | inr s ↦ (h.ends p.0 p.1).2 (s.0 ∙ e ∙ sym s.1)
  ]

  abbrev Later : ℕ → ℕ → Type 0
  Later u x = (K.sign (x_from K.ops (at u) (at x)) ≡ Greater) ⊎ ((K.sign (x_from K.ops (at u) (at x)) ≡ Equal) × (K.sign (y_from K.ops (at u) (at x)) ≡ Greater))

  later_by : (u x : ℕ) (o : Ordering) → K.sign (x_from K.ops (at x) (at u)) ≡ o → ordering_then o (K.sign (y_from K.ops (at x) (at u))) ≡ Less → Later u x
  later_by u x Less e k = inl (x_turned K (at u) (at x) ∙ ap ordering_reverse e)
  later_by u x Equal e k = inr (x_turned K (at u) (at x) ∙ ap ordering_reverse e, y_turned K (at u) (at x) ∙ ap ordering_reverse k)
  later_by u x Greater e k = absurd (cc)

  pub later_of : (u x : ℕ) → point_order K (at u) (at x) ≡ Less → Later u x
  later_of u x k = later_by u x (K.sign (x_from K.ops (at x) (at u))) refl k

  module _ (u w : ℕ) (o : IsOutside K vertices edges u w) where
    hu : IsPoint K (at u)
    hu = vertex_point K vertices edges h u o.in_range

    least : IsLeast K at all u
    least = (
      (w, directed edges u w o.first.neighbour),
      λ x v. elim (same_or_not x u) [
        | inl e ↦ inl e
        | inr n ↦ inr (later_of u x (o.least x (in_range x v.0 (directed_piece edges x v.0 v.1)) n))
      ],
    )

    -- no neighbour leads west
    ahead : (x : ℕ) → IsDirectedPiece edges u x → ¬ (x ≡ u) → IsTrue (is_ge (K.sign (x_from K.ops (at u) (at x))))
    ahead x p n = not_west K (K.sign (x_from K.ops (at u) (at x))) (later_of u x (o.least x (directed_end u x p) n))

    left_of_none : (x : ℕ) → IsDirectedPiece edges u x → ¬ (side K (at u) (at w) (at x) ≡ Greater)
    left_of_none x p = elim (same_or_not x w) [
      | inl e ↦ subst (λ (y : ℕ). ¬ (side K (at u) (at w) (at y) ≡ Greater)) (sym e) (equal_not_greater K (at_second K (at u) (at w)))
      | inr n ↦ λ k.
          none_left K (direction K.ops (at u) (at w)) (direction K.ops (at u) (at x))
          (ahead w o.first.neighbour (other_end u w o.first.neighbour)) (ahead x p (other_end u x p))
          (o.first.first x p (λ e. e) n)
          (turn_side K (at u) (at w) (at x) hu ∙ k)
    ]

    pub outer_piece : IsOuter K at all (piece u w)
    outer_piece = (least, directed edges u w o.first.neighbour, λ x near. left_of_none x (directed_piece edges u x near))
