use Rattle.std.proofs.Common.{rules, ◌≡◌, sym, ◌∙◌}
use Rattle.plane.proofs.Order.{equal_of_same}
use Rattle.plane_timing.proofs.points.Random.segment.Goals as goal

-- ends that don't compare as equal are different points
pub returns-in_default : goal.returns-in_default
returns-in_default g c = (
  record { from = c.in_ok-from.ensures; to = c.in_ok-to.ensures },
  λ same. c.in_default.not-Equal
      (c.compare_points.ensures ∙ equal_of_same g.W.Whole.numbers.ring c.in_ok-from.from c.in_ok-to.to same),
)
