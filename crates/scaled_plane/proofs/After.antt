-- What comes after a directed piece is one, and it comes after no other.
use mathlib.Core.Path.{◌≡◌, sym, subst, ◌∙◌}
use Prim.Native.Nat.{ℕ}
use Rattle.std.proofs.Common.{inl, inr}
use Rattle.std.specs.Prelude.{List}
use Rattle.algebra.specs.OrderedRing.{OrderedRing}
use Rattle.plane.specs.declared.point.Point.{Point}
use Rattle.scaled_plane.specs.declared.drawing.Edge.{Edge}
use Rattle.plane.specs.Directions.{IsClockwise}
use Rattle.scaled_plane.specs.Walks.{ComesAfter, way, IsDirectedPiece}
use Rattle.plane.proofs.First.{same_or_not}
use Rattle.plane.proofs.Turning.{clockwise_turned, clockwise_once, clockwise_apart}

pub piece_back : (edges : List Edge) (u v : ℕ) → IsDirectedPiece edges u v → IsDirectedPiece edges v u
piece_back edges u v h = (h.0, h.1, elim h.2 [ inl e ↦ inr e | inr e ↦ inl e ])

module _ {A : Type 0} (K : OrderedRing A) (vertices : List (Point A)) (edges : List Edge) where
  -- nothing comes clockwise between a neighbour and itself
  none_between : (v u w x : ℕ) → w ≡ u → ¬ IsClockwise K (way K vertices edges v u) (way K vertices edges v w) (way K vertices edges v x)
  none_between v u w x e h =
      clockwise_apart K (way K vertices edges v u) (way K vertices edges v x)
      (subst (λ (y : ℕ). IsClockwise K (way K vertices edges v u) (way K vertices edges v y) (way K vertices edges v x)) e h)

  after_by : (u v w z : ℕ) → ComesAfter K vertices edges u v w → ComesAfter K vertices edges u v z → ¬ (w ≡ z) → ⊥
  after_by u v w z h k n =
      elim (same_or_not w u) [
        | inl e ↦ none_between v u w z e (h.next.first z k.next.neighbour (λ f. n (e ∙ sym f)) (λ f. n (sym f)))
        | inr a ↦ elim (same_or_not z u) [
          | inl e ↦ none_between v u z w e (k.next.first w h.next.neighbour a n)
          | inr b ↦ clockwise_once K (way K vertices edges v u) (way K vertices edges v w) (way K vertices edges v z)
              (h.next.first z k.next.neighbour b (λ f. n (sym f))) (k.next.first w h.next.neighbour a n)
        ]
      ]

  pub after_once : (u v w z : ℕ) → ComesAfter K vertices edges u v w → ComesAfter K vertices edges u v z → w ≡ z
  after_once u v w z h k = elim (same_or_not w z) [ inl e ↦ e | inr n ↦ absurd (after_by u v w z h k n) ]

  before_by : (u z v w : ℕ) → ComesAfter K vertices edges u v w → ComesAfter K vertices edges z v w → ¬ (u ≡ z) → ⊥
  before_by u z v w h k n =
      elim (same_or_not w u) [
        | inl e ↦ none_between v u w z e (h.next.first z (piece_back edges z v k.piece) (λ f. n (sym f)) (λ f. n (sym (f ∙ e))))
        | inr a ↦ elim (same_or_not w z) [
          | inl e ↦ none_between v z w u e (k.next.first u (piece_back edges u v h.piece) n (λ f. n (f ∙ e)))
          | inr b ↦ clockwise_once K (way K vertices edges v u) (way K vertices edges v w) (way K vertices edges v z)
              (h.next.first z (piece_back edges z v k.piece) (λ f. n (sym f)) (λ f. b (sym f)))
              (clockwise_turned K (way K vertices edges v w) (way K vertices edges v u) (way K vertices edges v z)
              (clockwise_turned K (way K vertices edges v z) (way K vertices edges v w) (way K vertices edges v u)
              (k.next.first u (piece_back edges u v h.piece) n (λ f. a (sym f)))))
        ]
      ]

  pub before_once : (u z v w : ℕ) → ComesAfter K vertices edges u v w → ComesAfter K vertices edges z v w → u ≡ z
  before_once u z v w h k = elim (same_or_not u z) [ inl e ↦ e | inr n ↦ absurd (before_by u z v w h k n) ]
