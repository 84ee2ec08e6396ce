use Rattle.half_planes.specs.Along.{IsInside}
use Rattle.half_planes.specs.Intervals.{LiesWithin}
use Rattle.scaled_plane.proofs.DrawnSizes.{scaled_point}
use Rattle.half_planes.proofs.Bounds.{found}
use Rattle.half_planes.proofs.Leaving.{some_iff}
use Rattle.half_planes.proofs.Entering.{entered}
use Rattle.half_planes.proofs.enters.segment_enters.Goals as goal

pub returns : goal.returns
returns g c =
    let K = g.L.Ring.Whole.numbers.ring in
    let lines = g.L.Lines.lines c.args.lines.now in
    let from = c.args.from in
    let to = c.args.to in
    let some = some_iff K (λ i p. LiesWithin {g = g.L.Ring.Whole} K i p) (λ p. IsInside K from to lines p) c.places_inside.result
    (λ i. let f = found K i.lower i.upper i.room in (f.place, f.is_place, f.lies)) c.places_inside.ensures in
    let same = entered K lines from to (scaled_point g.L.Ring.Whole.numbers from c.requires.first) (scaled_point g.L.Ring.Whole.numbers to c.requires.second) in
    rw c.is_some.ensures (λ h. same.0 (some.0 h), λ e. some.1 (same.1 e))
