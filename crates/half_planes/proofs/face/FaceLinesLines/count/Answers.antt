use Rattle.std.proofs.Common.{◌∙◌, sym}
use Rattle.half_planes.proofs.Borders.{length_borders}
use Rattle.half_planes.proofs.face.FaceLinesLines.count.Goals as goal

pub returns : goal.returns
returns g c = c.corner_count.ensures ∙ sym (length_borders g.F.Ring.Whole.numbers.ring (g.F.FaceView.face c.args.self.now.face.now))
