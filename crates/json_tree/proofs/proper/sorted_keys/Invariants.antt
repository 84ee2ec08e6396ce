use Rattle.std.proofs.Common.{◌≡◌, map, take}
use Rattle.json_tree.specs.Tree.{keys}
use Rattle.json_tree.proofs.proper.sorted_keys.Given as goal

abbrev pub invariant-loop-member : goal.invariant-loop-member
invariant-loop-member l = map (λ key. key.now) l.sorted.items ≡ keys (take l.member-index l.member-items)
