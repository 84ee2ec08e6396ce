use Rattle.half_planes.specs.Elimination.{Clears}
use Rattle.half_planes.specs.Intervals.{LiesWithin}
use Rattle.half_planes.proofs.Leaving.{After}
use Rattle.half_planes.proofs.meet.shadow.Given as goal

abbrev pub invariant-loop-place : goal.invariant-loop-place
invariant-loop-place g l =
    let K = g.L.Ring.Whole.numbers.ring in
    After K (λ i p. LiesWithin K i p) (λ m p. Clears K (g.L.Lines.lines l.lines) m p) (g.L.Lines.lines l.lines) l.initial.room l.place l.room
