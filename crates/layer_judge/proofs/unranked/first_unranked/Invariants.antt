use Rattle.std.proofs.Common.{ℕ, ◌<◌}
use Rattle.layers.specs.Orders.{Above, Unranked}
use Rattle.layer_judge.specs.Judging.{layer_orders}
use Rattle.layer_judge.proofs.unranked.first_unranked.Given as goal

abbrev pub invariant-loop-low : goal.invariant-loop-low
invariant-loop-low g l = (k : ℕ) → k < l.low → (j : ℕ) → ¬ Unranked g.S.Ring.Whole.numbers.ring (g.S.SheetView.sheet l.judged.sheet.now) (Above (g.S.SheetView.sheet l.judged.sheet.now) (layer_orders l.judged.orders.now)) k j
