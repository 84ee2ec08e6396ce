use Rattle.std.proofs.Common.{◌≡◌, [], take, map}
use Rattle.fold_keys.specs.Trees.{tree_of_frame}
use Rattle.fold_keys.proofs.writing.write_others.Given as goal

abbrev pub invariant-loop-frame : goal.invariant-loop-frame
invariant-loop-frame l = l.trees ≡ map (tree_of_frame []) (take l.frame-index l.frames)
