-- The places of an interval.
use Rattle.algebra.specs.OrderedRing.{OrderedRing}
use Rattle.half_planes.specs.Bounds.{Place, Lies}
use Rattle.half_planes.specs.declared.interval.Interval.{Interval}

abbrev pub LiesWithin : {W : Type 0} {g : _} → OrderedRing W → Interval W g → Place W → Type 0
LiesWithin K i p = Lies K i.lower i.upper p
