use Rattle.plane.specs.Lines.{IsAbove}
use Rattle.half_planes.specs.Along.{divided}
use Rattle.half_planes.specs.Intervals.{LiesWithin}
use Rattle.half_planes.proofs.Leaving.{After}
use Rattle.half_planes.proofs.enters.places_inside.Given as goal

abbrev pub invariant-loop-place : goal.invariant-loop-place
invariant-loop-place g l =
    let K = g.L.Ring.Whole.numbers.ring in
    After K (λ i p. LiesWithin K i p) (λ m p. IsAbove K m (divided K.ops l.from l.to p)) (g.L.Lines.lines l.lines) l.initial.room l.place l.room
