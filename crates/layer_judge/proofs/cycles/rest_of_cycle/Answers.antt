use Rattle.std.proofs.Common.{arith}
use borrow.Author.Count.{below_more}
use Rattle.layer_judge.proofs.Below.{face_below}
use Rattle.layer_judge.proofs.cycles.rest_of_cycle.Goals.{then-is_above+in_default, else-is_above}
use Rattle.layer_judge.proofs.cycles.rest_of_cycle.Goals as goal

pub loop-second-init : goal.loop-second-init
loop-second-init g c j less k r = let a = r.least.0 in omega arith

pub loop-second-preserved : goal.loop-second-preserved
loop-second-preserved g c = below_more _ _ c.loop-second.invariant (elim c.if-is_above.branch [
  | then-is_above+in_default w ↦ w.in_default.ensures
  | else-is_above w ↦ λ k r. let a = c.is_above.ensures.1 r.around.0 in let b = w.if-is_above.false in cc
])

pub returns : goal.returns
returns g c j k r = let below = face_below r.overlap.in_second in c.loop-second.invariant j (omega (arith, c.face_count-count.ensures.count)) k r
