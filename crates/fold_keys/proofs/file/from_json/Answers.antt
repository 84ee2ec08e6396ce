use Rattle.fold_keys.proofs.Written.{answers_written}
use Rattle.fold_keys.proofs.file.from_json.Goals as goal

pub returns-clause-written : goal.returns-clause-written
returns-clause-written c = answers_written c.args.tree c.read_file.result c.read_file.ensures
