use Rattle.std.proofs.Common.{arith}
use borrow.Author.Count.{below_more}
use Rattle.layer_judge.proofs.Below.{face_below}
use Rattle.layer_judge.proofs.unranked.first_unranked.Goals as goal

pub loop-low-preserved : goal.loop-low-preserved
loop-low-preserved g c = below_more _ _ c.loop-low.invariant c.in_default.ensures

pub returns : goal.returns
returns g c k j r = let below = face_below r.overlap.in_first in c.loop-low.invariant k (omega (arith, c.face_count-low-end.ensures.count)) j r
