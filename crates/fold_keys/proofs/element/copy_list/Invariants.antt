use Rattle.std.proofs.Common.{◌≡◌, take}
use Rattle.fold_keys.proofs.element.copy_list.Given as goal

abbrev pub invariant-loop-element : goal.invariant-loop-element
invariant-loop-element g l = l.made ≡ take l.element-index l.element-items
