use Rattle.std.proofs.Common.{◌≡◌, take, map}
use Rattle.fold_keys.proofs.element.write_list.Given as goal

abbrev pub invariant-loop-element : goal.invariant-loop-element
invariant-loop-element g l =
    l.items ≡ map g.K.ElementKind.tree_of (take l.element-index l.element-items)
