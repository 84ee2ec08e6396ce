use Rattle.std.proofs.Common.{ℕ, ◌<◌}
use Rattle.layers.specs.Orders.{Above, Unranked}
use Rattle.layer_judge.specs.Judging.{layer_orders}
use Rattle.layer_judge.proofs.unranked.unranked_with.Given as goal

abbrev pub invariant-loop-high : goal.invariant-loop-high
invariant-loop-high g l = (k : ℕ) → k < l.high → ¬ Unranked g.S.Ring.Whole.numbers.ring (g.S.SheetView.sheet l.judged.sheet.now) (Above (g.S.SheetView.sheet l.judged.sheet.now) (layer_orders l.judged.orders.now)) l.low k
