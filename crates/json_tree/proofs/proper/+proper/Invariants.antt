use Rattle.std.proofs.Common.{take}
use Rattle.std.specs.List.{AllByRecursion}
use Rattle.json_tree.specs.Tree.{IsProperWithin}
use Rattle.json_tree.proofs.proper.+proper.Given as goal

abbrev pub invariant-are_proper_items-loop-item : goal.invariant-are_proper_items-loop-item
invariant-are_proper_items-loop-item l = AllByRecursion (IsProperWithin l.levels) (take l.item-index l.items)

abbrev pub invariant-are_proper_members-loop-member : goal.invariant-are_proper_members-loop-member
invariant-are_proper_members-loop-member l = AllByRecursion (λ m. IsProperWithin l.levels m.value) (take l.member-index l.member-items)
