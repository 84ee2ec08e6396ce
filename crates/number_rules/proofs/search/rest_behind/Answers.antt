use Rattle.std.proofs.Common.{arith}
use Rattle.number_rules.proofs.RootSearch.{rest_back, rest_on}
use Rattle.number_rules.proofs.search.rest_behind.Goals as goal

pub returns-then-rest-left-clause-value : goal.returns-then-rest-left-clause-value
returns-then-rest-left-clause-value c = λ z rest. rest_back z c.args.rest c.args.fraction rest c.requires.fraction (omega arith)

pub returns-else-rest-left-clause-value : goal.returns-else-rest-left-clause-value
returns-else-rest-left-clause-value c = λ z rest. rest_on z c.args.rest c.args.fraction rest c.requires.fraction (omega arith)
