use Rattle.layer_judge.proofs.OneVerdict.{one_answer, one_refusal, verdict_or_fault}
use Rattle.layer_judge.proofs.laws.one_verdict.Goals as goal

pub returns-clause-verdict : goal.returns-clause-verdict
returns-clause-verdict g c = λ K sheet orders v w. one_answer K sheet orders c.crossings_in_order.ensures.total c.crossings_in_order.ensures.same v w

pub returns-clause-refusal : goal.returns-clause-refusal
returns-clause-refusal g c = λ K sheet orders e d. one_refusal K sheet orders (c.orders_rank_faces.ensures.one_way sheet orders) e d

pub returns-clause-not_both : goal.returns-clause-not_both
returns-clause-not_both g c = λ K sheet orders v e. verdict_or_fault K sheet orders (c.orders_rank_faces.ensures.one_way sheet orders) (c.orders_rank_faces.ensures.ranked K sheet orders) v e
