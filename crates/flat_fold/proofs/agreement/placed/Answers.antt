use Rattle.flat_fold.proofs.agreement.placed.Goals as goal

pub unreachable-requires : goal.unreachable-requires
unreachable-requires g c = c.in-Err.ensures c.requires

pub unreachable-unreachable : goal.unreachable-unreachable
unreachable-unreachable g c = c.in-Err.ensures c.requires

pub returns : goal.returns
returns g c = c.in-Ok.ensures.1
