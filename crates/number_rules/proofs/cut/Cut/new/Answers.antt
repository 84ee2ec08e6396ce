use Rattle.std.proofs.Common.{rules, refl}
use Rattle.number_rules.proofs.Steps.{begins_behind}
use Rattle.number_rules.proofs.cut.Cut.new.Goals as goal

pub returns-then-kept-lt0-clause-shows : goal.returns-then-kept-lt0-clause-shows
returns-then-kept-lt0-clause-shows c = begins_behind c.args.kept _ (search rules) refl refl refl
