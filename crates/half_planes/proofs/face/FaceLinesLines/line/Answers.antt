use Rattle.std.proofs.Common.{◌∙◌, ap, sym, Some, true, false, arith}
use Rattle.scaled_plane.specs.Drawn.{IsScaledPoint}
use Rattle.half_planes.proofs.Leaving.{all_at}
use Rattle.half_planes.proofs.Borders.{length_borders, border_at}
use Rattle.half_planes.proofs.face.FaceLinesLines.line.Goals as goal

pub place_after-next-requires : goal.place_after-next-requires
place_after-next-requires g c =
    omega (arith, c.requires, c.corner_count.ensures, length_borders g.F.Ring.Whole.numbers.ring (g.F.FaceView.face c.args.self.now.face.now))

pub corner-from-requires : goal.corner-from-requires
corner-from-requires g c = omega (arith, c.requires, length_borders g.F.Ring.Whole.numbers.ring (g.F.FaceView.face c.args.self.now.face.now))

pub line_through-requires-clause-first : goal.line_through-requires-clause-first
line_through-requires-clause-first g c =
    all_at (λ p. IsScaledPoint g.F.Ring.Whole.numbers p) (g.F.FaceView.face c.args.self.now.face.now).corners c.place_after-next.result c.corner-to.result
    (g.met.F.FaceView.scaled c.args.self.now.face.now) c.corner-to.ensures

pub line_through-requires-clause-second : goal.line_through-requires-clause-second
line_through-requires-clause-second g c =
    all_at (λ p. IsScaledPoint g.F.Ring.Whole.numbers p) (g.F.FaceView.face c.args.self.now.face.now).corners c.args.place c.corner-from.result
    (g.met.F.FaceView.scaled c.args.self.now.face.now) c.corner-from.ensures

pub line_through-requires-else-is_turned-clause-first : goal.line_through-requires-else-is_turned-clause-first
line_through-requires-else-is_turned-clause-first g c =
    all_at (λ p. IsScaledPoint g.F.Ring.Whole.numbers p) (g.F.FaceView.face c.args.self.now.face.now).corners c.args.place c.corner-from.result
    (g.met.F.FaceView.scaled c.args.self.now.face.now) c.corner-from.ensures

pub line_through-requires-else-is_turned-clause-second : goal.line_through-requires-else-is_turned-clause-second
line_through-requires-else-is_turned-clause-second g c =
    all_at (λ p. IsScaledPoint g.F.Ring.Whole.numbers p) (g.F.FaceView.face c.args.self.now.face.now).corners c.place_after-next.result c.corner-to.result
    (g.met.F.FaceView.scaled c.args.self.now.face.now) c.corner-to.ensures

pub returns-then-is_turned : goal.returns-then-is_turned
returns-then-is_turned g c =
    border_at g.F.Ring.Whole.numbers.ring (g.F.FaceView.face c.args.self.now.face.now) c.args.place c.place_after-next.result c.corner-from.result c.corner-to.result
    c.corner-from.ensures c.corner-to.ensures (λ e. c.place_after-next.ensures.last (e ∙ sym c.corner_count.ensures))
    (λ h. c.place_after-next.ensures.other (omega (arith, h, c.corner_count.ensures))) true (sym c.if-is_turned.true ∙ c.is_turned.ensures)
    ∙ ap Some (sym c.line_through.ensures.value)

pub returns-else-is_turned : goal.returns-else-is_turned
returns-else-is_turned g c =
    border_at g.F.Ring.Whole.numbers.ring (g.F.FaceView.face c.args.self.now.face.now) c.args.place c.place_after-next.result c.corner-from.result c.corner-to.result
    c.corner-from.ensures c.corner-to.ensures (λ e. c.place_after-next.ensures.last (e ∙ sym c.corner_count.ensures))
    (λ h. c.place_after-next.ensures.other (omega (arith, h, c.corner_count.ensures))) false (sym c.if-is_turned.false ∙ c.is_turned.ensures)
    ∙ ap Some (sym c.line_through-else-is_turned.ensures.value)
