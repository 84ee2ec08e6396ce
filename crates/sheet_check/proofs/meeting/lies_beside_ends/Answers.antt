use Rattle.sheet_check.proofs.CommonPoints.{flat_none}
use Rattle.sheet_check.proofs.meeting.lies_beside_ends.Goals as goal

pub returns-then-is_same : goal.returns-then-is_same
returns-then-is_same g c = flat_none g.W.Whole.numbers.ring c.args.s.from c.args.s.to c.args.p (c.is_same.ensures.0 c.if-is_same.true)
