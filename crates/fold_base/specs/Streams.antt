-- how often a reader and a writer have failed
use Rattle.std.specs.Prelude.{ℕ}
use Rattle.fold_base.specs.declared.streams.ReadSource.{ReadSource}
use Rattle.fold_base.specs.declared.streams.WriteSink.{WriteSink}

abbrev pub read_faults : {R : Type 0} → ReadSource R → ℕ
read_faults s = s.faults

abbrev pub write_faults : {W : Type 0} → WriteSink W → ℕ
write_faults s = s.faults
