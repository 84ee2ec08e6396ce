use Rattle.std.proofs.Common.{◌∙◌}
use Rattle.drawing_repair.proofs.Narrow.{narrow_vertices, rational_vertices}
use Rattle.drawing_repair.proofs.laws.vertices_can_be_written.Goals as goal

pub returns-clause-rational : goal.returns-clause-rational
returns-clause-rational g c = λ one flat ends faces v.
    rational_vertices g.N.Exact.parts g.N.Ring.Whole.numbers g.met.N.Ring.Whole.holds g.met.N.Ring.Whole.at_most_three flat ends faces v (g.met.N.Exact.same_root ∙ one)

pub returns-clause-narrow : goal.returns-clause-narrow
returns-clause-narrow g c = λ flat ends faces v narrow.
    narrow_vertices g.N.Exact.parts g.N.Ring.Whole.numbers g.met.N.Ring.Whole.holds g.met.N.Ring.Whole.at_most_three flat ends faces v narrow
