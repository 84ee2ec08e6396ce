use Rattle.std.proofs.Common.{◌≡◌, drop}
use Rattle.json_tree.specs.At.{value_of}
use Rattle.json_tree.proofs.access.value_of.Given as goal

abbrev pub invariant-loop-member : goal.invariant-loop-member
invariant-loop-member l = value_of (drop l.member-index l.members) l.key ≡ value_of l.members l.key
