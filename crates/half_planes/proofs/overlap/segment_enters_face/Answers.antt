use Rattle.half_planes.proofs.Borders.{borders_formed, face_entered}
use Rattle.half_planes.proofs.overlap.segment_enters_face.Goals as goal

pub segment_enters-requires-clause-formed : goal.segment_enters-requires-clause-formed
segment_enters-requires-clause-formed g c =
    borders_formed g.F.Ring.Whole.numbers (g.F.FaceView.face c.args.face.now) (g.met.F.FaceView.scaled c.args.face.now)

pub returns : goal.returns
returns g c =
    let same = face_entered g.F.Ring.Whole.numbers.ring c.args.from c.args.to (g.F.FaceView.face c.args.face.now) in
    (λ h. same.0 (c.segment_enters.ensures.0 h), λ e. c.segment_enters.ensures.1 (same.1 e))
