use Rattle.layers.proofs.Square.{square_folded, square_one_way, square_ranked, square_layered, letter_occurs}
use Rattle.layers.proofs.laws.folded_square_is_layered.Goals as goal

pub returns-clause-folded : goal.returns-clause-folded
returns-clause-folded g = square_folded

pub returns-clause-one_way : goal.returns-clause-one_way
returns-clause-one_way g = square_one_way

pub returns-clause-ranked : goal.returns-clause-ranked
returns-clause-ranked g = square_ranked

pub returns-clause-layered : goal.returns-clause-layered
returns-clause-layered g = square_layered

pub returns-clause-misordered : goal.returns-clause-misordered
returns-clause-misordered g = letter_occurs
