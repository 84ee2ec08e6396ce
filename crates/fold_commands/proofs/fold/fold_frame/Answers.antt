use Rattle.std.proofs.Common.{List, Option, subst}
use Rattle.crease_input.specs.Roots.{root_of}
use Rattle.fold_keys.specs.declared.value.FaceOrder.{FaceOrder}
use Rattle.fold_commands.specs.FoldedFrames.{FoldsWith, orders_of}
use Rattle.fold_commands.specs.Frames.{HasCounts, HasUnevenLists}
use Rattle.fold_commands.specs.Steps.{Follows}
use Rattle.fold_commands.specs.declared.aim.Aim.TheVariants.{Form}
use Rattle.fold_commands.proofs.Chain.{goes_on}
use Rattle.fold_commands.proofs.fold.fold_frame.Goals as goal

pub returns : goal.returns
returns c =
    let frame = c.args.frame.now in
    goes_on (HasUnevenLists frame) (HasCounts frame) (λ counts. FoldsWith Form (orders_of frame.entries) (root_of frame.entries) c.args.number frame)
    c.in_ok-counts_of.field-0 c.in_ok-counts_of.ensures c.fold_with.result
    (subst (λ (os : Option (List FaceOrder)). Follows (FoldsWith Form os (root_of frame.entries) c.args.number frame) c.fold_with.result)
    c.orders_of.ensures.orders c.fold_with.ensures)
