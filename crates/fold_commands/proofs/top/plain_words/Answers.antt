use Rattle.fold_commands.proofs.Decide.{apart}
use Rattle.fold_commands.proofs.Plain.{plain_words}
use Rattle.fold_commands.proofs.top.plain_words.Goals as goal

pub returns-clause-meant : goal.returns-clause-meant
returns-clause-meant c = plain_words

pub returns-clause-taken : goal.returns-clause-taken
returns-clause-taken c = λ words command status plain refused. apart words status command refused (plain_words words command plain)
