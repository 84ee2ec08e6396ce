use Rattle.std.proofs.Common.{ℕ, ◌<◌}
use Rattle.layers.specs.Listing.{CreasesListed}
use Rattle.layers.specs.Orders.{Above}
use Rattle.layer_judge.specs.Judging.{layer_orders}
use Rattle.layer_judge.proofs.creases.crease_with.Given as goal

abbrev pub invariant-loop-edge : goal.invariant-loop-edge
invariant-loop-edge g l = (k : ℕ) → k < l.edge → ¬ CreasesListed g.S.Ring.Whole.numbers.ring (g.S.SheetView.sheet l.judged.sheet.now) (Above (g.S.SheetView.sheet l.judged.sheet.now) (layer_orders l.judged.orders.now)) l.crease.edge k
