use Rattle.cp_lines.proofs.Readings.{one_list, one_named, not_both, some_reading}
use Rattle.cp_lines.proofs.read.one_reading.Goals as goal

pub returns-clause-lines : goal.returns-clause-lines
returns-clause-lines c = one_list

pub returns-clause-fault : goal.returns-clause-fault
returns-clause-fault c = one_named

pub returns-clause-either : goal.returns-clause-either
returns-clause-either c = not_both

pub returns-clause-some : goal.returns-clause-some
returns-clause-some c = some_reading
