use Rattle.std.proofs.Common.{arith}
use borrow.Author.Count.{below_more}
use Rattle.layer_judge.proofs.Below.{face_below}
use Rattle.layer_judge.proofs.cycles.third_of_cycle.Goals as goal

pub loop-third-init : goal.loop-third-init
loop-third-init g c k less r = let a = r.least.1 in omega arith

pub returns-then-is_cycle : goal.returns-then-is_cycle
returns-then-is_cycle g c = (c.is_cycle.ensures.0 c.if-is_cycle.true, c.loop-third.invariant)

pub loop-third-preserved : goal.loop-third-preserved
loop-third-preserved g c = below_more _ _ c.loop-third.invariant (λ r. let a = c.is_cycle.ensures.1 r in let b = c.if-is_cycle.false in cc)

pub returns : goal.returns
returns g c k r = let below = face_below r.overlap.in_third in c.loop-third.invariant k (omega (arith, c.face_count-count.ensures.count)) r
