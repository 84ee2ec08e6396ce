use Rattle.std.proofs.Common.{rules}
use Rattle.crease_input.proofs.Framed.{edge_more, edges_all}
use Rattle.crease_input.proofs.frame.edges_of.Goals as goal

pub loop-place-preserved : goal.loop-place-preserved
loop-place-preserved c =
    edge_more c.args.pairs.now c.args.letters.now c.requires c.loop-place.place _ c.loop-place.edges c.push.new.self
    c.edge_of.result c.loop-place-test.true c.edge_of.ensures (search rules) c.loop-place.invariant

pub returns : goal.returns
returns c =
    edges_all c.args.pairs.now c.args.letters.now c.requires c.loop-place.place c.loop-place.edges c.loop-place.invariant
    c.loop-place-test.false
