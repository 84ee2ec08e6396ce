use Rattle.std.proofs.Common.{◌≡◌, map, take}
use Rattle.std.specs.Str.{bytes_eq}
use Rattle.indexmap.specs.IndexMap.{insert_all}
use Rattle.fold_frames.specs.Inherits.{given}
use Rattle.fold_frames.proofs.inherited.put_entries.Given as goal

abbrev pub invariant-loop-entry : goal.invariant-loop-entry
invariant-loop-entry l = map (λ e. (e.0.now, e.1.now)) l.table.entries ≡ insert_all bytes_eq (map (λ e. (e.0.now, e.1.now)) l.fn.table.entries) (given (take l.entry-index l.entries))
