use Rattle.json_tree.proofs.Joined.{joined_more}
use Rattle.crease_input.specs.Pattern.{printed_exact}
use Rattle.crease_input.proofs.pattern.put_exact_points.Goals as goal

pub loop-place-preserved : goal.loop-place-preserved
loop-place-preserved g c =
    joined_more c.args.coords.now c.loop-place.place c.index-coords-place.result c.loop-place-test.true
    c.index-coords-place.is (printed_exact g.N.Exact.ROOT g.N.Exact.parts) _ _ _ _ c.loop-place.invariant c.in_ok-put_comma.ensures c.in_ok-put_exact_point.ensures
