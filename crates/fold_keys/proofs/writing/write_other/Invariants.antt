use Rattle.std.proofs.Common.{◌≡◌, [], take, map}
use Rattle.fold_keys.specs.Trees.{member_of}
use Rattle.fold_keys.proofs.writing.write_other.Given as goal

abbrev pub invariant-loop-entry : goal.invariant-loop-entry
invariant-loop-entry l = l.members ≡ map (member_of []) (take l.entry-index l.entries)
