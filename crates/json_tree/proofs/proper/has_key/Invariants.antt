use Rattle.std.proofs.Common.{take}
use Rattle.json_tree.specs.Tree.{HasKey}
use Rattle.json_tree.proofs.proper.has_key.Given as goal

abbrev pub invariant-loop-member : goal.invariant-loop-member
invariant-loop-member l = ¬ HasKey (take l.member-index l.members) l.key
