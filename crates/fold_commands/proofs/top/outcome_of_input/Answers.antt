use Rattle.fold_commands.proofs.Outcomes.{outcome_of_input}
use Rattle.fold_commands.proofs.top.outcome_of_input.Goals as goal

pub returns : goal.returns
returns c = outcome_of_input
