use Rattle.scaled_plane.proofs.DrawnSizes.{scaled_size, line_size, drawn_size, side_size, x_size, y_size}
use Rattle.scaled_plane.proofs.laws.degree_bounds.Goals as goal

pub returns-clause-points : goal.returns-clause-points
returns-clause-points g c = scaled_size g.W.Whole.numbers g.met.W.Whole.at_most_three

pub returns-clause-lines : goal.returns-clause-lines
returns-clause-lines g c = line_size g.W.Whole.numbers g.met.W.Whole.at_most_three

pub returns-clause-crossings : goal.returns-clause-crossings
returns-clause-crossings g c = drawn_size g.W.Whole.numbers g.met.W.Whole.at_most_three

pub returns-clause-sides : goal.returns-clause-sides
returns-clause-sides g c = side_size g.W.Whole.numbers g.met.W.Whole.at_most_three

pub returns-clause-compared : goal.returns-clause-compared
returns-clause-compared g c p q hp hq = (
  x_size g.W.Whole.numbers g.met.W.Whole.at_most_three p q hp hq,
  y_size g.W.Whole.numbers g.met.W.Whole.at_most_three p q hp hq,
)
