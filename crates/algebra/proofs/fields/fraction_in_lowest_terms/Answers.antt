use Rattle.algebra.proofs.FractionsOfSurds.{fraction_lowest, fraction_once, fraction_rational}
use Rattle.algebra.proofs.fields.fraction_in_lowest_terms.Goals as goal

pub returns-clause-exists : goal.returns-clause-exists
returns-clause-exists c = fraction_lowest

pub returns-clause-once : goal.returns-clause-once
returns-clause-once c = λ k n d r s not_zero. fraction_once k n d not_zero r s

pub returns-clause-rational : goal.returns-clause-rational
returns-clause-rational c = λ n d r not_zero. fraction_rational 1 n d not_zero r (λ i. 1)
