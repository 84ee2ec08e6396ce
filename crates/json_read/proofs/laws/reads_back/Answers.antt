use Rattle.json_read.proofs.Readings.{printed_reads_back}
use Rattle.json_read.proofs.laws.reads_back.Goals as goal

pub returns : goal.returns
returns c = printed_reads_back
