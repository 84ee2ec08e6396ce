-- What comes after a directed piece: by the clockwise order of directions, and by their order from one of them.
use Prim.Native.Nat.{ℕ}
use mathlib.Core.Path.{◌≡◌, refl, sym, ap, subst, ◌∙◌}
use mathlib.Core.List.{List, [], ◌∷◌}
use mathlib.Core.Logic.{◌⊎◌, inl, inr}
use Rattle.algebra.specs.OrderedRing.{OrderedRing}
use Rattle.algebra.proofs.Solvers.{reads, ring, sign_of_multiple}
use Rattle.plane.specs.declared.point.Point.{Point}
use Rattle.plane.specs.Points.{IsPoint}
use Rattle.plane.specs.Lines.{determinant, side}
use Rattle.plane.specs.Directions.{Direction, direction, turn, IsClockwise}
use Rattle.plane.proofs.First.{same_or_not}
use Rattle.plane.proofs.Turning.{clockwise_apart}
use Rattle.scaled_plane.specs.declared.drawing.Edge.{Edge}
use Rattle.scaled_plane.specs.Walks.{ComesAfter, way}
use Rattle.regions.specs.Faces.{IsPlane as IsPlaneDrawing}
use Rattle.regions.proofs.Drawings.{Piece, piece, IsDirected, IsPlane}
use Rattle.regions.proofs.Walks.{ComesBefore, Follows}
use Rattle.regions.proofs.Directions.{directed_back}
use Rattle.regions.proofs.InnerPoints.{directed_ends}
use Rattle.regions.proofs.Turns.{IsClockwise as IsClockwiseAt, never_itself, own_last, before_then, clockwise_before, before_clockwise, before_own, comes_first}
use Rattle.regions.proofs.Pieces.{place, ps, directed, directed_piece, is_plane}

-- the turn between two ways has the sign of the side
pub turn_side : {A : Type 0} (K : OrderedRing A) (c a b : Point A) → IsPoint K c
    → K.sign (turn K.ops (direction K.ops c a) (direction K.ops c b)) ≡ side K c a b
turn_side K c a b hc =
    ap K.sign (ring K (c.x ∷ c.y ∷ c.w ∷ a.x ∷ a.y ∷ a.w ∷ b.x ∷ b.y ∷ b.w ∷ []) (search reads depth 40 fits 50000) (search reads depth 40 fits 50000) tt)
    ∙ sign_of_multiple K c.w (determinant K.ops c a b) hc

module _ {A : Type 0} (K : OrderedRing A) (vertices : List (Point A)) (edges : List Edge) (h : IsPlaneDrawing K vertices edges) where
  abbrev at : ℕ → Point A
  at v = place K vertices edges v

  abbrev all : List Piece
  all = ps K vertices edges

  plane : IsPlane K at all
  plane = is_plane K vertices edges h

  abbrev to : ℕ → ℕ → Direction A
  to v u = way K vertices edges v u

  module _ (v u w x : ℕ) (hv : IsPoint K (at v)) where
    clockwise_at : IsClockwise K (to v u) (to v w) (to v x) → IsClockwiseAt K at all plane v u w x
    clockwise_at (inl c) = inl (sym (turn_side K (at v) (at u) (at w) hv) ∙ c.0, sym (turn_side K (at v) (at w) (at x) hv) ∙ c.1)
    clockwise_at (inr (inl c)) = inr (inl (sym (turn_side K (at v) (at w) (at x) hv) ∙ c.0, sym (turn_side K (at v) (at x) (at u) hv) ∙ c.1))
    clockwise_at (inr (inr c)) = inr (inr (sym (turn_side K (at v) (at x) (at u) hv) ∙ c.0, sym (turn_side K (at v) (at u) (at w) hv) ∙ c.1))

    clockwise_of : IsClockwiseAt K at all plane v u w x → IsClockwise K (to v u) (to v w) (to v x)
    clockwise_of (inl c) = inl (turn_side K (at v) (at u) (at w) hv ∙ c.0, turn_side K (at v) (at w) (at x) hv ∙ c.1)
    clockwise_of (inr (inl c)) = inr (inl (turn_side K (at v) (at w) (at x) hv ∙ c.0, turn_side K (at v) (at x) (at u) hv ∙ c.1))
    clockwise_of (inr (inr c)) = inr (inr (turn_side K (at v) (at x) (at u) hv ∙ c.0, turn_side K (at v) (at u) (at w) hv ∙ c.1))

  module _ (u v w : ℕ) where
    abbrev Before : ℕ → ℕ → Type 0
    Before x y = ComesBefore K at v u x y

    pub follows_of : ComesAfter K vertices edges u v w → Follows K at all (piece u v) (piece v w)
    follows_of c = record {
      before = directed edges u v c.piece;
      after = directed edges v w c.next.neighbour;
      turns_at = refl;
      next = λ x near. never x near (same_or_not x w) (same_or_not x u) (same_or_not w u);
    }
      where
        back : IsDirected all (piece v u)
        back = directed_back all (piece u v) (directed edges u v c.piece)

        near_w : IsDirected all (piece v w)
        near_w = directed edges v w c.next.neighbour

        hv : IsPoint K (at v)
        hv = (directed_ends K at all plane (piece v u) back).tail_point

        never : (x : ℕ) → IsDirected all (piece v x) → (x ≡ w) ⊎ ¬ (x ≡ w) → (x ≡ u) ⊎ ¬ (x ≡ u) → (w ≡ u) ⊎ ¬ (w ≡ u) → ¬ Before x w
        never x near (inl e) a b t = never_itself K at all plane v u w (subst (λ (x : ℕ). Before x w) e t)
        never x near (inr n) (inl e) b t = own_last K at all plane v u w (subst (λ (x : ℕ). Before x w) e t)
        never x near (inr n) (inr m) (inl e) t =
            clockwise_apart K (to v u) (to v x)
            (subst (λ (y : ℕ). IsClockwise K (to v u) (to v y) (to v x)) e (c.next.first x (directed_piece edges v x near) m n))
        never x near (inr n) (inr m) (inr k) t =
            never_itself K at all plane v u w (before_then K at all plane v u w x w back near_w
            (clockwise_before K at all plane v u w x back near_w near k m (clockwise_at v u w x hv (c.next.first x (directed_piece edges v x near) m n))) t)

    pub after_of : Follows K at all (piece u v) (piece v w) → ComesAfter K vertices edges u v w
    after_of f = record {
      piece = directed_piece edges u v f.before;
      next = record {
        neighbour = directed_piece edges v w f.after;
        first = λ x near other last. first x (directed edges v x near) other last (same_or_not w u);
      };
    }
      where
        back : IsDirected all (piece v u)
        back = directed_back all (piece u v) f.before

        hv : IsPoint K (at v)
        hv = (directed_ends K at all plane (piece v u) back).tail_point

        first : (x : ℕ) → IsDirected all (piece v x) → ¬ (x ≡ u) → ¬ (x ≡ w) → (w ≡ u) ⊎ ¬ (w ≡ u) → IsClockwise K (to v u) (to v w) (to v x)
        first x near other last (inl e) = absurd (f.next x near (subst (λ (y : ℕ). Before x y) (sym e) (before_own K at all plane v u x other)))
        first x near other last (inr n) =
            clockwise_of v u w x hv (before_clockwise K at all plane v u w x back f.after near n other
            (comes_first K at all plane v u w x back f.after near (λ e. last (sym e)) (f.next x near)))
