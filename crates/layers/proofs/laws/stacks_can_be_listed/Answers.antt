use Rattle.layers.specs.Orders.{Above}
use Rattle.layers.proofs.Stacks.{ordered_stack, no_ring}
use Rattle.layers.proofs.laws.stacks_can_be_listed.Goals as goal

pub returns : goal.returns
returns g c = λ K sheet orders one_way ranks p is_point. (no_ring K sheet (Above sheet orders) one_way p, ordered_stack K sheet (Above sheet orders) one_way ranks p is_point)
