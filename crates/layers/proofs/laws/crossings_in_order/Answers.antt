use Rattle.layers.proofs.Naming.{crossings_total, same_crossing, order_itself}
use Rattle.layers.proofs.laws.crossings_in_order.Goals as goal

pub returns-clause-total : goal.returns-clause-total
returns-clause-total g = crossings_total

pub returns-clause-same : goal.returns-clause-same
returns-clause-same g x y = (same_crossing x y, order_itself x y)
