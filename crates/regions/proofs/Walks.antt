-- What follows a directed piece, as the proofs see it: after (u, v) comes (v, w), where no neighbour of v comes before w, clockwise
-- from u. This order is linear, so that inductions are short; `Following` says that it is that of `ComesAfter`.
use Prim.Native.Nat.{ℕ, ◌<◌}
use mathlib.Core.Path.{◌≡◌}
use mathlib.Core.List.{List}
use mathlib.Core.Bool.{cond}
use mathlib.Core.Logic.{◌⊎◌}
use Rattle.std.specs.Prelude.{nat_eq}
use Rattle.std.specs.declared.cmp.Ordering.TheVariants.{Less}
use Rattle.std.specs.Ordering.{ordering_index}
use Rattle.algebra.specs.OrderedRing.{OrderedRing}
use Rattle.plane.specs.declared.point.Point.{Point}
use Rattle.plane.specs.Lines.{side}
use Rattle.regions.proofs.Drawings.{Piece, piece, IsDirected}

-- R leads from d to e, through as many others as it may, forwards or back
pub data Linked {D : Type 0} (R : D → D → Type 0) : D → D → Type 0 where
  same : {d : D} → Linked R d d
  onward : {d e f : D} → R d e → Linked R e f → Linked R d f
  back : {d e f : D} → R e d → Linked R e f → Linked R d f

module _ {A : Type 0} (K : OrderedRing A) (place : ℕ → Point A) where
  -- the part of a full turn clockwise from vu in which vx lies: 0 right of vu, 1 opposite to it, 2 left of it, 3 vu itself
  abbrev pub part_of_turn : ℕ → ℕ → ℕ → ℕ
  part_of_turn v u x = cond (nat_eq x u) 3 (ordering_index (side K (place v) (place u) (place x)))

  -- turning clockwise from vu, through a full turn, vx comes before vw
  abbrev pub ComesBefore : ℕ → ℕ → ℕ → ℕ → Type 0
  ComesBefore v u x w =
      (part_of_turn v u x < part_of_turn v u w) ⊎ ((part_of_turn v u x ≡ part_of_turn v u w) × (side K (place v) (place x) (place w) ≡ Less))

  -- e is the piece after d: no neighbour of the point between them comes before the end of e, clockwise from the start of d
  pub record Follows (ps : List Piece) (d e : Piece) : Type 0 where
    pub before : IsDirected ps d
    pub after : IsDirected ps e
    pub turns_at : e.tail ≡ d.head
    pub next : (x : ℕ) → IsDirected ps (piece d.head x) → ¬ ComesBefore d.head d.tail x e.head

  -- d and e are in one walk
  abbrev pub OneWalk : List Piece → Piece → Piece → Type 0
  OneWalk ps d e = Linked (Follows ps) d e
