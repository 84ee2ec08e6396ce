use Rattle.number_rules.proofs.OneA.{one_a}
use Rattle.number_rules.proofs.laws.one_a_at_each_b.Goals as goal

pub returns : goal.returns
returns c = one_a
