use Rattle.std.proofs.Common.{◌≡◌, rules, subst, sym, true, Option, Some, codes}
use Rattle.fold_frames.specs.Parents.{value_at}
use Rattle.fold_keys.specs.Writable.{IsWritableEntry}
use Rattle.fold_keys.specs.declared.value.Value.{Value}
use Rattle.fold_keys.specs.declared.value.Value.TheVariants as values
use Rattle.fold_commands.specs.FoldedFrames.{AreOfFaces, orders_in}
use Rattle.fold_commands.proofs.Ordered.{of_faces}
use Rattle.fold_commands.proofs.folded.orders_of.Goals as goal

pub returns-in-Some-Orders-clause-of_faces : goal.returns-in-Some-Orders-clause-of_faces
returns-in-Some-Orders-clause-of_faces c =
    let orders = c.in-Some-Orders.orders in
    let there : value_at c.args.frame.now.entries (codes "faceOrders") ≡ Some (values.Orders orders) = search rules in
    let fits : IsWritableEntry true (record { key = codes "faceOrders"; value = values.Orders orders }) = search rules in
    subst (λ (o : Option Value). AreOfFaces c.args.frame.now.entries (orders_in o)) (sym there)
    (of_faces c.args.frame.now c.requires c.faces_of.result c.faces_of.ensures orders there fits)
