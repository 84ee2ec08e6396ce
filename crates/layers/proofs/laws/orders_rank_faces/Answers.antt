use Rattle.layers.specs.Orders.{Above}
use Rattle.layers.proofs.Orders.{above_or_not, no_clash, none_opposed, all_ranked, none_unranked}
use Rattle.layers.proofs.laws.orders_rank_faces.Goals as goal

pub returns-clause-decided : goal.returns-clause-decided
returns-clause-decided g c = λ sheet orders f g. above_or_not sheet f g orders

pub returns-clause-one_way : goal.returns-clause-one_way
returns-clause-one_way g c = λ sheet orders. ((λ none. no_clash sheet orders none), (λ one_way i j before. none_opposed sheet orders one_way i j))

pub returns-clause-ranked : goal.returns-clause-ranked
returns-clause-ranked g c = λ K sheet orders. ((λ none. all_ranked K sheet orders none), (λ ranks. none_unranked K sheet (Above sheet orders) ranks))
