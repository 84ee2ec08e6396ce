use Rattle.std.proofs.Common.{◌≡◌, [], take, map}
use Rattle.fold_keys.specs.Trees.{member_of, tree_of_frame}
use Rattle.fold_keys.proofs.writing.write_first.Given as goal

abbrev pub invariant-loop-entry : goal.invariant-loop-entry
invariant-loop-entry l =
    l.members ≡ map (member_of (map (tree_of_frame []) l.others)) (take l.entry-index l.entries)
