use Rattle.std.proofs.Common.{arith}
use Rattle.number_rules.proofs.RootSearch.{rest_less, rest_more}
use Rattle.number_rules.proofs.search.rest_before.Goals as goal

pub returns-then-rest-fraction-clause-value : goal.returns-then-rest-fraction-clause-value
returns-then-rest-fraction-clause-value c = λ z rest. rest_less z c.args.rest c.args.fraction rest (omega arith)

pub returns-else-rest-fraction-clause-value : goal.returns-else-rest-fraction-clause-value
returns-else-rest-fraction-clause-value c = λ z rest. rest_more z c.args.rest c.args.fraction rest (omega arith) c.requires.fraction
