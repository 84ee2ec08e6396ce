use Rattle.algebra.proofs.Numbers.{rational_sign}
use Rattle.algebra.proofs.RationalQuotient.{rational_quotient_is}
use Rattle.algebra.proofs.fields.rational_number_laws.Goals as goal

pub returns-clause-sign : goal.returns-clause-sign
returns-clause-sign c = λ p h. rational_sign p (h.rational (λ i. 1))

pub returns-clause-quotient : goal.returns-clause-quotient
returns-clause-quotient c = rational_quotient_is
