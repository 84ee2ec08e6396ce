use Rattle.std.proofs.Common.{arith}
use borrow.Author.Count.{below_more}
use Rattle.layer_judge.proofs.Below.{face_below}
use Rattle.layer_judge.proofs.unranked.unranked_with.Goals as goal

pub loop-high-init : goal.loop-high-init
loop-high-init g c k less r = let a = r.ordered in omega arith

pub returns-then-is_unranked : goal.returns-then-is_unranked
returns-then-is_unranked g c = (c.is_unranked.ensures.0 c.if-is_unranked.true, c.loop-high.invariant)

pub loop-high-preserved : goal.loop-high-preserved
loop-high-preserved g c = below_more _ _ c.loop-high.invariant (λ r. let a = c.is_unranked.ensures.1 r in let b = c.if-is_unranked.false in cc)

pub returns : goal.returns
returns g c k r = let below = face_below r.overlap.in_second in c.loop-high.invariant k (omega (arith, c.face_count-count.ensures.count)) r
