use Rattle.json_tree.specs.Tree.{keys}
use Rattle.json_tree.proofs.Distinct.{distinct_by_order}
use Rattle.json_tree.proofs.proper.has_distinct_keys.Goals as goal

pub returns-in-Ok : goal.returns-in-Ok
returns-in-Ok c = distinct_by_order (keys c.args.members.now) c.in-Ok.sorted.items _ _ c.in-Ok.ensures.permutation c.as_slice-in-Ok.ensures.value c.neighbours_differ.ensures
