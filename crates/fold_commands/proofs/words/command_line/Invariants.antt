use Rattle.std.proofs.Common.{◌≡◌, map, take}
use Rattle.std.specs.List.{fold}
use Rattle.clap.specs.Words.{app_of}
use Rattle.fold_commands.specs.Words.{as_listed, with_entry, no_entries}
use Rattle.fold_commands.proofs.words.command_line.Given as goal

abbrev pub invariant-loop-entry : goal.invariant-loop-entry
invariant-loop-entry l = app_of l.line ≡ fold with_entry no_entries (map as_listed (take l.entry-index l.entry-items))
