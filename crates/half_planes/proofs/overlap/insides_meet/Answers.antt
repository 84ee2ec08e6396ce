use Rattle.std.proofs.Common.{arith}
use Rattle.std.proofs.lemmas.List.Elements.{All-append}
use Rattle.layers.proofs.Faces.{borders}
use Rattle.half_planes.specs.HalfPlanes.{IsFormed}
use Rattle.half_planes.proofs.Borders.{length_borders, borders_formed, two_meet}
use Rattle.half_planes.proofs.overlap.insides_meet.Goals as goal

pub invariant_of-meet_inside : goal.invariant_of-meet_inside
invariant_of-meet_inside g c =
    record { few = omega (arith, c.requires, length_borders g.F.Ring.Whole.numbers.ring (g.F.FaceView.face c.args.first.now), length_borders g.F.Ring.Whole.numbers.ring (g.G.FaceView.face c.args.second.now)) }

pub meet_inside-requires : goal.meet_inside-requires
meet_inside-requires g c =
    All-append (λ l. IsFormed g.F.Ring.Whole.numbers l) (borders g.F.Ring.Whole.numbers.ring (g.F.FaceView.face c.args.first.now)) (borders g.F.Ring.Whole.numbers.ring (g.G.FaceView.face c.args.second.now))
    (borders_formed g.F.Ring.Whole.numbers (g.F.FaceView.face c.args.first.now) (g.met.F.FaceView.scaled c.args.first.now)) (borders_formed g.F.Ring.Whole.numbers (g.G.FaceView.face c.args.second.now) (g.met.G.FaceView.scaled c.args.second.now))

pub returns : goal.returns
returns g c =
    let same = two_meet g.F.Ring.Whole.numbers.ring (g.F.FaceView.face c.args.first.now) (g.G.FaceView.face c.args.second.now) in
    (λ h. same.0 (c.meet_inside.ensures.0 h), λ o. c.meet_inside.ensures.1 (same.1 o))
