use Rattle.std.proofs.Common.{refl}
use Rattle.drawing_examples.proofs.Drawings.{follow_as}
use Rattle.drawing_examples.proofs.following_pieces.Goals as goal

pub returns-clause-one_neighbour : goal.returns-clause-one_neighbour
returns-clause-one_neighbour c = follow_as refl

pub returns-clause-opposite_neighbours : goal.returns-clause-opposite_neighbours
returns-clause-opposite_neighbours c = follow_as refl

pub returns-clause-three_neighbours : goal.returns-clause-three_neighbours
returns-clause-three_neighbours c = follow_as refl

pub returns-clause-four_neighbours : goal.returns-clause-four_neighbours
returns-clause-four_neighbours c = follow_as refl

pub returns-clause-diagonals : goal.returns-clause-diagonals
returns-clause-diagonals c = follow_as refl
