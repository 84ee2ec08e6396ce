use Rattle.fold_frames.proofs.Paths.{Walked, unmarked}
use Rattle.fold_frames.proofs.parents.way.Given as goal

abbrev pub invariant-loop-met : goal.invariant-loop-met
invariant-loop-met l = Walked l.frames l.fn.frame l.here l.way l.met.items

abbrev pub decreases-loop-met : goal.decreases-loop-met
decreases-loop-met l = unmarked l.met.items
