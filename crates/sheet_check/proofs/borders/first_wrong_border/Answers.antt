use Rattle.std.proofs.Common.{below_more, sym, ◌∙◌}
use Rattle.sheet_check.proofs.borders.first_wrong_border.Goals as goal

pub loop-edge-preserved : goal.loop-edge-preserved
loop-edge-preserved c = below_more _ _ c.loop-edge.invariant (sym c.is_wrong_border.ensures ∙ c.if-is_wrong_border.false)
