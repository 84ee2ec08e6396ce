-- The least vertex of a drawing, and the first piece of the walk round its outside.
use Prim.Native.Nat.{ℕ}
use mathlib.Core.Path.{◌≡◌}
use mathlib.Core.List.{List}
use mathlib.Core.Logic.{◌⊎◌}
use Rattle.std.specs.declared.cmp.Ordering.TheVariants.{Equal, Greater}
use Rattle.algebra.specs.OrderedRing.{OrderedRing}
use Rattle.plane.specs.declared.point.Point.{Point}
use Rattle.plane.specs.Points.{x_from, y_from}
use Rattle.plane.specs.Lines.{side}
use Rattle.regions.proofs.Drawings.{Piece, piece, IsDirected, IsVertex}

module _ {A : Type 0} (K : OrderedRing A) (place : ℕ → Point A) where
  -- each other vertex lies right of v, or straight above it
  abbrev pub IsLeast : List Piece → ℕ → Type 0
  IsLeast ps v =
      IsVertex ps v
      × ((x : ℕ) → IsVertex ps x → (x ≡ v) ⊎ (K.sign (x_from K.ops (place v) (place x)) ≡ Greater)
      ⊎ ((K.sign (x_from K.ops (place v) (place x)) ≡ Equal) × (K.sign (y_from K.ops (place v) (place x)) ≡ Greater)))

  -- d leads from the least vertex to its first neighbour clockwise from the direction of smaller x: since all neighbours of
  -- the least vertex lie in half a turn, the first is the one that has none at its left
  abbrev pub IsOuter : List Piece → Piece → Type 0
  IsOuter ps d =
      IsLeast ps d.tail × IsDirected ps d × ((x : ℕ) → IsDirected ps (piece d.tail x) → ¬ (side K (place d.tail) (place d.head) (place x) ≡ Greater))
