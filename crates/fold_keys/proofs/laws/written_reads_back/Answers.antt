use Rattle.fold_keys.proofs.Written.{written_fits, one_written}
use Rattle.fold_keys.proofs.laws.written_reads_back.Goals as goal

pub returns : goal.returns
returns c = record { fits = written_fits; one = one_written }
