use Rattle.std.proofs.Common.{◌≡◌, None}
use Rattle.fold_keys.specs.Frames.{AreEntriesOf}
use Rattle.fold_keys.specs.Shape.{misfit_of_members}
use Rattle.fold_keys.proofs.file.read_entries.Given as goal

abbrev pub invariant-loop-member : goal.invariant-loop-member
invariant-loop-member l = record {
  read : AreEntriesOf l.frame l.yielded l.entries l.others;
  fit : misfit_of_members l.frame l.yielded ≡ None;
}
