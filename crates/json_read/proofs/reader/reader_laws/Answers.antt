use Rattle.json_read.specs.declared.fault.JsonReadFault.TheVariants.{Text, Memory}
use Rattle.json_read.proofs.Kept.{kept_by, found_by, going_by}
use Rattle.json_read.proofs.reader.reader_laws.Goals as goal

pub returns-clause-unspoiled : goal.returns-clause-unspoiled
returns-clause-unspoiled c = λ reader text error r e. found_by reader.stopped reader.machine text (Memory error) r.1 e

pub returns-clause-kept : goal.returns-clause-kept
returns-clause-kept c = λ reader text fault r n more. kept_by reader.stopped reader.machine text fault r.1 n more

pub returns-clause-found : goal.returns-clause-found
returns-clause-found c = λ reader text fault r e. found_by reader.stopped reader.machine text (Text fault) r.1 e

pub returns-clause-going : goal.returns-clause-going
returns-clause-going c = λ reader text r none. going_by reader.stopped reader.machine text r.1 none
