use Rattle.std.proofs.lemmas.Result.{err_from_is_err_and}
use Rattle.fold_commands.specs.Words.{texts}
use Rattle.fold_commands.proofs.Meaning.{faults_at_ok, found_at_ok, refused}
use Rattle.fold_commands.proofs.words.matches_of.Goals as goal

pub returns-in_err-try_get_matches_from-clause-err : goal.returns-in_err-try_get_matches_from-clause-err
returns-in_err-try_get_matches_from-clause-err c =
    let p = err_from_is_err_and c.from_residual-in_err-try_get_matches_from.result c.from_residual-in_err-try_get_matches_from.ensures.1 in
    rw p.1 (refused _ (texts c.args.words.now) c.in_err-try_get_matches_from.field-0.0 p.0 c.in_ok-command_line.ensures c.in_err-try_get_matches_from.ensures.kinds p.2)

pub returns-clause-ok : goal.returns-clause-ok
returns-clause-ok c = (
  faults_at_ok _ (texts c.args.words.now) c.in_ok-command_line.ensures c.in_ok-try_get_matches_from.ensures.kinds,
  found_at_ok _ (texts c.args.words.now) _ c.in_ok-command_line.ensures c.in_ok-try_get_matches_from.ensures.matches,
)
