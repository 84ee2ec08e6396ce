use Rattle.half_planes.proofs.Extents.{apart_share_none}
use Rattle.half_planes.proofs.extent.lie_apart.Goals as goal

pub returns : goal.returns
returns g c = λ t.
    apart_share_none g.F.Ring.Whole.numbers (g.F.FaceView.face c.args.first.now) (g.G.FaceView.face c.args.second.now) c.requires.first c.requires.second
    (g.met.F.FaceView.scaled c.args.first.now) (g.met.G.FaceView.scaled c.args.second.now) c.extent_of.result c.extent_of-2.result c.extent_of.ensures.holds c.extent_of-2.ensures.holds (c.are_apart.ensures.0 t)
