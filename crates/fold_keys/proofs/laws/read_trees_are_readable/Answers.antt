use Rattle.fold_keys.proofs.Readable.{short_lists, short_spec}
use Rattle.fold_keys.proofs.laws.read_trees_are_readable.Goals as goal

pub returns : goal.returns
returns c = record { lists = λ most tree within. short_lists most within tree; version = λ most tree within. short_spec most within tree }
