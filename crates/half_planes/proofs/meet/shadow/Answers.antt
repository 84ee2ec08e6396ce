use Rattle.std.proofs.Common.{◌≡◌, None}
use Rattle.half_planes.specs.Elimination.{Clears}
use Rattle.half_planes.specs.Intervals.{LiesWithin}
use Rattle.half_planes.proofs.Leaving.{after_more, none_after}
use Rattle.half_planes.proofs.meet.shadow.Goals as goal

pub returns-in_err-room : goal.returns-in_err-room
returns-in_err-room g c =
    let K = g.L.Ring.Whole.numbers.ring in
    let lines = g.L.Lines.lines c.args.lines.now in
    let none : c.from_residual.result ≡ None = cc in
    rw none
    (λ p h meets. none_after K (λ i p. LiesWithin K i p) (λ l p. Clears K lines l p) lines c.whole-room.result c.loop-place.place c.loop-place.room
    c.small_line-line.result c.loop-place.invariant c.small_line-line.ensures.value c.in_err-room.ensures p h (c.whole-room.ensures p, meets))

pub loop-place-preserved : goal.loop-place-preserved
loop-place-preserved g c =
    let K = g.L.Ring.Whole.numbers.ring in
    let lines = g.L.Lines.lines c.args.lines.now in
    after_more K (λ i p. LiesWithin K i p) (λ l p. Clears K lines l p) lines c.whole-room.result c.loop-place.place c.loop-place.room
    c.small_line-line.result c.loop-place.invariant c.small_line-line.ensures.value c.in_ok-room.room c.in_ok-room.ensures
