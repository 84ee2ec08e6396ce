use Rattle.std.proofs.Common.{arith}
use borrow.Author.Count.{below_more}
use Rattle.layer_judge.proofs.Below.{edge_below}
use Rattle.layer_judge.proofs.through.join_between.Goals as goal

pub returns-then-join_crosses : goal.returns-then-join_crosses
returns-then-join_crosses g c = (c.join_crosses.ensures.0 c.if-join_crosses.true, c.loop-edge.invariant)

pub loop-edge-preserved : goal.loop-edge-preserved
loop-edge-preserved g c = below_more _ _ c.loop-edge.invariant (λ r. let a = c.join_crosses.ensures.1 r in let b = c.if-join_crosses.false in cc)

pub returns : goal.returns
returns g c k r = let below = edge_below r.join.faces in c.loop-edge.invariant k (omega (arith, c.edge_count-edge-end.ensures)) r
