use Rattle.half_planes.specs.Elimination.{IsShadow}
use Rattle.half_planes.specs.Intervals.{LiesWithin}
use Rattle.half_planes.proofs.Bounds.{found}
use Rattle.half_planes.proofs.Leaving.{some_iff}
use Rattle.half_planes.proofs.Eliminated.{eliminated}
use Rattle.half_planes.proofs.meet.meet_inside.Goals as goal

pub returns : goal.returns
returns g c =
    let K = g.L.Ring.Whole.numbers.ring in
    let lines = g.L.Lines.lines c.args.lines.now in
    let some = some_iff K (λ i p. LiesWithin {g = g.L.Ring.Whole} K i p) (λ p. IsShadow K lines p) c.shadow.result
    (λ i. let f = found K i.lower i.upper i.room in (f.place, f.is_place, f.lies)) c.shadow.ensures in
    rw c.is_some.ensures (λ h. (eliminated K lines).0 (some.0 h), λ meet. some.1 ((eliminated K lines).1 meet))
