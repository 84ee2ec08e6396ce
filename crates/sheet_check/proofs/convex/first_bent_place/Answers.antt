use Rattle.std.proofs.Common.{below_more}
use Rattle.sheet_check.proofs.convex.first_bent_place.Goals as goal

pub loop-place-preserved : goal.loop-place-preserved
loop-place-preserved g c = below_more _ _ c.loop-place.invariant c.if-is_bent.ensures.straight
