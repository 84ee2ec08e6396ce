use Rattle.algebra.proofs.LowestForms.{reduced, reduced_is}
use Rattle.algebra.proofs.LowestByGcd.{gcd_of_parts, reduced_once, reduced_by_gcd}
use Rattle.algebra.proofs.fields.lowest_terms.Goals as goal

pub returns-clause-exist : goal.returns-clause-exist
returns-clause-exist c = λ p h. (reduced p, reduced_is p h)

pub returns-clause-once : goal.returns-clause-once
returns-clause-once c = reduced_once

pub returns-clause-by_gcd : goal.returns-clause-by_gcd
returns-clause-by_gcd c = reduced_by_gcd

pub returns-clause-gcd : goal.returns-clause-gcd
returns-clause-gcd c = gcd_of_parts
