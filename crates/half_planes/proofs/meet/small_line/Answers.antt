use Rattle.half_planes.proofs.Sizes.{formed_size}
use Rattle.half_planes.proofs.meet.small_line.Goals as goal

pub returns-clause-size : goal.returns-clause-size
returns-clause-size g c =
    formed_size g.L.Ring.Whole.numbers g.met.L.Ring.Whole.at_most_three (g.L.Lines.lines c.args.lines.now) c.args.place c.line.result c.requires.formed c.line.ensures
