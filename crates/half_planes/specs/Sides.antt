-- Sides of a line on which several points are.
use Rattle.std.specs.Prelude.{Option, Some, None}
use Rattle.std.specs.declared.cmp.Ordering.{Ordering}
use Rattle.std.specs.declared.cmp.Ordering.TheVariants.{Less, Equal, Greater}

-- the side of two points of which none is on another side than the other, or on the line
abbrev pub one_side : Ordering → Ordering → Option Ordering
one_side Less Less = Some Less
one_side Less Equal = Some Less
one_side Less Greater = None
one_side Equal s = Some s
one_side Greater Less = None
one_side Greater Equal = Some Greater
one_side Greater Greater = Some Greater
