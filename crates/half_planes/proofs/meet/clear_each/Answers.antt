use Rattle.std.proofs.Common.{◌≡◌, None}
use Rattle.half_planes.specs.Elimination.{AsksWith}
use Rattle.half_planes.specs.Intervals.{LiesWithin}
use Rattle.half_planes.proofs.Leaving.{after_more, none_after}
use Rattle.half_planes.proofs.meet.clear_each.Goals as goal

pub returns-in_err-room : goal.returns-in_err-room
returns-in_err-room g c =
    let K = g.L.Ring.Whole.numbers.ring in
    let none : c.from_residual.result ≡ None = cc in
    rw none
    (none_after K (λ i p. LiesWithin K i p) (λ u p. AsksWith K c.args.line u p) (g.L.Lines.lines c.args.lines.now) c.args.room c.loop-place.place c.loop-place.room
    c.small_line-upper.result c.loop-place.invariant c.small_line-upper.ensures.value c.in_err-room.ensures)

pub loop-place-preserved : goal.loop-place-preserved
loop-place-preserved g c =
    let K = g.L.Ring.Whole.numbers.ring in
    after_more K (λ i p. LiesWithin K i p) (λ u p. AsksWith K c.args.line u p) (g.L.Lines.lines c.args.lines.now) c.args.room c.loop-place.place c.loop-place.room
    c.small_line-upper.result c.loop-place.invariant c.small_line-upper.ensures.value c.in_ok-room.room c.in_ok-room.ensures
