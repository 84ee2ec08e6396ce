use Rattle.std.proofs.Common.{below_more}
use Rattle.sheet_check.proofs.LeastLemmas.{none_flat, not_flat}
use Rattle.sheet_check.proofs.least.first_flat.Goals as goal

pub loop-edge-preserved : goal.loop-edge-preserved
loop-edge-preserved c = below_more _ _ c.loop-edge.invariant (not_flat c.args.edges.now c.loop-edge.edge _ c.if-edges-edge.false)

pub returns : goal.returns
returns c = none_flat c.args.edges.now c.loop-edge.edge c.loop-edge-test.false c.loop-edge.invariant
