use Rattle.std.proofs.Common.{rules}
use Rattle.crease_input.specs.Pattern.{printed_ids}
use Rattle.crease_input.proofs.PatternText.{joined_at}
use Rattle.crease_input.proofs.pattern.put_all_ids.Goals as goal

pub loop-place-preserved : goal.loop-place-preserved
loop-place-preserved c =
    joined_at c.args.edges.now c.loop-place.place _ c.loop-place-test.true printed_ids _ _ _ _
    c.loop-place.invariant c.in_ok-put_comma.ensures c.in_ok-put_ids.ensures
