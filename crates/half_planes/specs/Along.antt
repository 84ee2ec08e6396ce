-- Half-planes along a segment: a line asks of a point s·p + t·q a bound on s / t.
use Rattle.std.specs.Prelude.{List, All, pos}
use Rattle.algebra.specs.Ring.{Operations}
use Rattle.algebra.specs.OrderedRing.{OrderedRing}
use Rattle.plane.specs.declared.point.Point.{Point}
use Rattle.plane.specs.declared.point.Line.{Line}
use Rattle.plane.specs.Points.{combination}
use Rattle.plane.specs.Lines.{value, IsAbove}
use Rattle.half_planes.specs.Bounds.{Place, Holds}
use Rattle.half_planes.specs.declared.bound.Bound.{Bound}

module _ {A : Type 0} (ops : Operations A) where
  abbrev pub along : Line A → Point A → Point A → Bound A
  along l p q = record { slope = value ops l p; offset = value ops l q }

  -- x is above zero
  abbrev pub above_zero : Bound A
  above_zero = record { slope = ops.int (pos 1); offset = ops.int (pos 0) }

  -- the point that divides the segment as the place says
  abbrev pub divided : Point A → Point A → Place A → Point A
  divided p q at = combination ops at.x p at.weight q

-- the places of points between p and q that lie in all the half-planes
pub record IsInside {A : Type 0} (K : OrderedRing A) (p q : Point A) (lines : List (Line A)) (at : Place A) : Type 0 where
  pub positive : Holds K (above_zero K.ops) at
  pub inside : All (λ l. IsAbove K l (divided K.ops p q at)) lines
