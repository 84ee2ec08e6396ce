use Rattle.json_read.proofs.Readings.{one_tree, same_fault, not_both, some_reading}
use Rattle.json_read.proofs.Feeds.{fault_on}
use Rattle.json_read.proofs.laws.one_reading.Goals as goal

pub returns-clause-tree : goal.returns-clause-tree
returns-clause-tree c = one_tree

pub returns-clause-fault : goal.returns-clause-fault
returns-clause-fault c = same_fault

pub returns-clause-either : goal.returns-clause-either
returns-clause-either c = not_both

pub returns-clause-some : goal.returns-clause-some
returns-clause-some c = some_reading

pub returns-clause-stays : goal.returns-clause-stays
returns-clause-stays c = λ text more fault n byte. fault_on text more fault.place fault.cause byte n
