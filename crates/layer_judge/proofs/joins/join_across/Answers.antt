use Rattle.std.proofs.Common.{arith}
use borrow.Author.Count.{below_more}
use Rattle.layer_judge.proofs.Below.{edge_below}
use Rattle.layer_judge.proofs.joins.join_across.Goals as goal

pub loop-edge-init : goal.loop-edge-init
loop-edge-init g c k less r = let a = r.ordered in omega arith

pub returns-then-joins_cross : goal.returns-then-joins_cross
returns-then-joins_cross g c = (c.joins_cross.ensures.0 c.if-joins_cross.true, c.loop-edge.invariant)

pub loop-edge-preserved : goal.loop-edge-preserved
loop-edge-preserved g c = below_more _ _ c.loop-edge.invariant (λ r. let a = c.joins_cross.ensures.1 r in let b = c.if-joins_cross.false in cc)

pub returns : goal.returns
returns g c k r = let below = edge_below r.other_join.faces in c.loop-edge.invariant k (omega (arith, c.edge_count-count.ensures)) r

pub overflow_step-edge : goal.overflow_step-edge
overflow_step-edge g c = let within = c.requires.join.uncut.edge_within in omega (arith, c.edge_count-count.ensures)
