use Rattle.std.proofs.Common.{◌≡◌, None, Some}
use Rattle.plane.specs.Lines.{IsAbove}
use Rattle.half_planes.specs.Bounds.{Holds}
use Rattle.half_planes.specs.Along.{divided, above_zero}
use Rattle.half_planes.specs.Intervals.{LiesWithin}
use Rattle.half_planes.proofs.Leaving.{after_more, none_after, leaves_same}
use Rattle.half_planes.proofs.Entering.{along_same, holds_alike}
use Rattle.half_planes.proofs.enters.places_inside.Goals as goal

pub returns-in_err-room-2 : goal.returns-in_err-room-2
returns-in_err-room-2 g c =
    let K = g.L.Ring.Whole.numbers.ring in
    let lines = g.L.Lines.lines c.args.lines.now in
    let none : c.from_residual-in_err-room-2.result ≡ None = cc in
    rw none
    (λ p h meets. none_after K (λ i p. LiesWithin K i p) (λ m p. IsAbove K m (divided K.ops c.args.from c.args.to p)) lines c.in_ok-room.room c.loop-place.place c.loop-place.room
    c.small_line-line.result c.loop-place.invariant c.small_line-line.ensures.value
    (leaves_same K (λ i p. LiesWithin {g = g.L.Ring.Whole} K i p) (λ p. LiesWithin K c.loop-place.room p × Holds K c.bound_along.result p)
    (λ p. LiesWithin K c.loop-place.room p × IsAbove K c.small_line-line.result (divided K.ops c.args.from c.args.to p))
    (λ p h. let same = along_same K c.bound_along.result c.small_line-line.result c.args.from c.args.to c.bound_along.ensures.value p in
    (λ both. (both.0, same.0 both.1), λ both. (both.0, same.1 both.1))) None c.in_err-room-2.ensures)
    p h ((c.in_ok-room.ensures p h).1 (c.whole-whole.ensures p, holds_alike K c.above_zero.result (above_zero K.ops) c.above_zero.ensures.value p meets.positive), meets.inside))

pub loop-place-preserved : goal.loop-place-preserved
loop-place-preserved g c =
    let K = g.L.Ring.Whole.numbers.ring in
    let lines = g.L.Lines.lines c.args.lines.now in
    after_more K (λ i p. LiesWithin K i p) (λ m p. IsAbove K m (divided K.ops c.args.from c.args.to p)) lines c.in_ok-room.room c.loop-place.place c.loop-place.room
    c.small_line-line.result c.loop-place.invariant c.small_line-line.ensures.value c.in_ok-room-2.room
    (leaves_same K (λ i p. LiesWithin {g = g.L.Ring.Whole} K i p) (λ p. LiesWithin K c.loop-place.room p × Holds K c.bound_along.result p)
    (λ p. LiesWithin K c.loop-place.room p × IsAbove K c.small_line-line.result (divided K.ops c.args.from c.args.to p))
    (λ p h. let same = along_same K c.bound_along.result c.small_line-line.result c.args.from c.args.to c.bound_along.ensures.value p in
    (λ both. (both.0, same.0 both.1), λ both. (both.0, same.1 both.1))) (Some c.in_ok-room-2.room) c.in_ok-room-2.ensures)
