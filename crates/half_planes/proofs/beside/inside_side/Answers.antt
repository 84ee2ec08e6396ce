use Rattle.std.proofs.Common.{◌≡◌, ◌∙◌, ap, sym, None, Some, length, arith}
use Rattle.plane.specs.Lines.{side}
use Rattle.half_planes.specs.Sides.{one_side}
use Rattle.half_planes.proofs.CornerSides.{towards_more, no_side, its_side}
use Rattle.half_planes.proofs.beside.inside_side.Goals as goal

pub returns-in_err-side : goal.returns-in_err-side
returns-in_err-side g c =
    let K = g.F.Ring.Whole.numbers.ring in
    let none : c.from_residual.result ≡ None = cc in
    let apart : one_side c.loop-place.side (side K c.args.from c.args.to c.corner.result) ≡ None =
    ap (one_side c.loop-place.side) (sym c.orient.ensures) ∙ sym c.in_err-side.ensures in
    rw none
    (no_side K c.args.from c.args.to (g.F.FaceView.face c.args.face.now) c.requires.convex c.loop-place.place c.loop-place.side c.corner.result c.loop-place.invariant
    c.corner.ensures apart)

pub loop-place-preserved : goal.loop-place-preserved
loop-place-preserved g c =
    let K = g.F.Ring.Whole.numbers.ring in
    let joined : one_side c.loop-place.side (side K c.args.from c.args.to c.corner.result) ≡ Some c.in_ok-side.side =
    ap (one_side c.loop-place.side) (sym c.orient.ensures) ∙ sym c.in_ok-side.ensures in
    towards_more K c.args.from c.args.to (g.F.FaceView.face c.args.face.now).corners c.loop-place.place c.loop-place.side c.in_ok-side.side c.corner.result
    c.loop-place.invariant c.corner.ensures joined

pub returns : goal.returns
returns g c =
    let K = g.F.Ring.Whole.numbers.ring in
    let over : c.loop-place.place ≡ length (g.F.FaceView.face c.args.face.now).corners =
    omega (arith, c.loop-place-test.false, c.loop-place.auto.place-end, c.corner_count-place-end.ensures) in
    its_side K c.args.from c.args.to (g.F.FaceView.face c.args.face.now) c.requires.convex c.requires.proper c.loop-place.place c.loop-place.side over c.loop-place.invariant
