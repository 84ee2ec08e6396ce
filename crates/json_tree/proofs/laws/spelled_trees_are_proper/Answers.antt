use Rattle.json_tree.proofs.SpelledLengths.{spelled_lengths}
use Rattle.json_tree.proofs.SpelledTrees.{spelled}
use Rattle.json_tree.proofs.laws.spelled_trees_are_proper.Goals as goal

pub returns : goal.returns
returns c = record { proper = λ text tree s. (spelled text tree s).0; texts = λ text tree s. (spelled text tree s).1; lengths = spelled_lengths }
