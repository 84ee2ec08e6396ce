use Rattle.std.proofs.Common.{take}
use Rattle.json_tree.specs.Tree.{AreDistinct, keys}
use Rattle.json_tree.proofs.proper.each_is_new.Given as goal

abbrev pub invariant-loop-place : goal.invariant-loop-place
invariant-loop-place l = AreDistinct (keys (take l.place l.members))
