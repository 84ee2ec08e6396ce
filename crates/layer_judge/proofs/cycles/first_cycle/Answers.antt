use Rattle.std.proofs.Common.{arith}
use borrow.Author.Count.{below_more}
use Rattle.layer_judge.proofs.Below.{face_below}
use Rattle.layer_judge.proofs.cycles.first_cycle.Goals as goal

pub loop-first-preserved : goal.loop-first-preserved
loop-first-preserved g c = below_more _ _ c.loop-first.invariant c.in_default.ensures

pub returns : goal.returns
returns g c i j k r = let below = face_below r.overlap.in_first in c.loop-first.invariant i (omega (arith, c.face_count-first-end.ensures.count)) j k r
