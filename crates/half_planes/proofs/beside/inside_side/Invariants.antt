use Rattle.half_planes.proofs.CornerSides.{AreTowards}
use Rattle.half_planes.proofs.beside.inside_side.Given as goal

abbrev pub invariant-loop-place : goal.invariant-loop-place
invariant-loop-place g l =
    AreTowards g.F.Ring.Whole.numbers.ring l.from l.to (g.F.FaceView.face l.face).corners l.place l.side
