use Rattle.std.proofs.Common.{arith}
use borrow.Author.Count.{below_more}
use Rattle.layer_judge.proofs.Below.{edge_below}
use Rattle.layer_judge.proofs.creases.crease_with.Goals as goal

pub loop-edge-init : goal.loop-edge-init
loop-edge-init g c k less r = let a = r.ordered in omega arith

pub returns-then-creases_cross : goal.returns-then-creases_cross
returns-then-creases_cross g c = (c.creases_cross.ensures.0 c.if-creases_cross.true, c.loop-edge.invariant)

pub loop-edge-preserved : goal.loop-edge-preserved
loop-edge-preserved g c = below_more _ _ c.loop-edge.invariant (λ r. let a = c.creases_cross.ensures.1 r in let b = c.if-creases_cross.false in cc)

pub returns : goal.returns
returns g c k r = let below = edge_below r.other_crease.faces in c.loop-edge.invariant k (omega (arith, c.edge_count-count.ensures)) r

pub overflow_step-edge : goal.overflow_step-edge
overflow_step-edge g c = let within = c.requires.crease.uncut.edge_within in omega (arith, c.edge_count-count.ensures)
