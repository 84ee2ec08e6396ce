use Rattle.half_planes.proofs.Extents.{at_least_itself, other_way}
use Rattle.half_planes.proofs.extent.lesser.Goals as goal

pub returns-then-is_at_least-clause-under_second : goal.returns-then-is_at_least-clause-under_second
returns-then-is_at_least-clause-under_second g c = at_least_itself g.W.Whole.numbers.ring c.args.y

pub returns-else-is_at_least-clause-under_first : goal.returns-else-is_at_least-clause-under_first
returns-else-is_at_least-clause-under_first g c = at_least_itself g.W.Whole.numbers.ring c.args.x

pub returns-else-is_at_least-clause-under_second : goal.returns-else-is_at_least-clause-under_second
returns-else-is_at_least-clause-under_second g c =
    other_way g.W.Whole.numbers.ring c.args.x c.args.y (λ h. let a = c.is_at_least.ensures.1 h in let b = c.if-is_at_least.false in cc)
