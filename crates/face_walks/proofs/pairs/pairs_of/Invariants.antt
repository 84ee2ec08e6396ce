use Rattle.face_walks.specs.Pairs.{ArePairs}
use Rattle.face_walks.proofs.pairs.pairs_of.Given as goal

abbrev pub invariant-loop-edge : goal.invariant-loop-edge
invariant-loop-edge l = ArePairs l.edges l.edge-index l.arena
