use Rattle.half_planes.proofs.Stretches.{not_together, together}
use Rattle.half_planes.proofs.together.share_stretch.Goals as goal

pub returns-in-Touches : goal.returns-in-Touches
returns-in-Touches g c =
    (λ h. absurd (cc), λ r. absurd (not_together g.W.Whole.numbers.ring c.args.first c.args.second c.in-Touches.field-0 c.in-Touches.ensures.common.0 r))

pub returns-in-Crosses : goal.returns-in-Crosses
returns-in-Crosses g c =
    (λ h. absurd (cc), λ r. absurd (not_together g.W.Whole.numbers.ring c.args.first c.args.second c.in-Crosses.field-0 c.in-Crosses.ensures.common.0 r))

pub returns : goal.returns
returns g c = (
  λ h. together g.W.Whole.numbers c.args.first c.args.second c.requires.first_scaled c.requires.second_scaled c.in-Along.field-0 c.in-Along.field-1 c.in-Along.ensures.common,
  λ r. cc,
)
