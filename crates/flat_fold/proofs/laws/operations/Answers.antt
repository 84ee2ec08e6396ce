use Rattle.flat_fold.proofs.OperationLaws.{placing-value, composing-value, reflecting-value}
use Rattle.flat_fold.proofs.laws.operations.Goals as goal

pub returns-clause-place : goal.returns-clause-place
returns-clause-place g c = placing-value

pub returns-clause-composed : goal.returns-clause-composed
returns-clause-composed g c = composing-value

pub returns-clause-reflection : goal.returns-clause-reflection
returns-clause-reflection g c = reflecting-value
