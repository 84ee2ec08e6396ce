use Rattle.regions.proofs.Cycles.{some_after, walk_through}
use Rattle.regions.proofs.Rotations.{one_walk_round}
use Rattle.regions.proofs.Partition.{some_before, least_walk, some_outer_walk}
use Rattle.regions.proofs.each_piece_in_one_walk.Goals as goal

pub returns-clause-after : goal.returns-clause-after
returns-clause-after g c = λ K vertices edges u v h d. some_after K vertices edges h u v d

pub returns-clause-before : goal.returns-clause-before
returns-clause-before g c = λ K vertices edges v w h d. some_before K vertices edges h v w d

pub returns-clause-some_walk : goal.returns-clause-some_walk
returns-clause-some_walk g c = λ K vertices edges u v h d. walk_through K vertices edges h u v d

pub returns-clause-one_walk : goal.returns-clause-one_walk
returns-clause-one_walk g c = λ K vertices edges corners others u v w z i j. one_walk_round K vertices edges corners others w z u v i j

pub returns-clause-least : goal.returns-clause-least
returns-clause-least g c = λ K vertices edges corners w. least_walk K vertices edges corners w

pub returns-clause-outer : goal.returns-clause-outer
returns-clause-outer g c = λ K vertices edges h some. some_outer_walk K vertices edges h some
