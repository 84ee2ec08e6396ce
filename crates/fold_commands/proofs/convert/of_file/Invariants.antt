use Rattle.std.proofs.Common.{◌≡◌, filter, take}
use Rattle.fold_commands.specs.Outcome.{is_of_file}
use Rattle.fold_commands.proofs.convert.of_file.Given as goal

abbrev pub invariant-loop-entry : goal.invariant-loop-entry
invariant-loop-entry l = l.entries ≡ filter (λ e. is_of_file e.key) (take l.entry-index l.entry-items)
