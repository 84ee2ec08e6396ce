use Rattle.std.proofs.Common.{ℕ, ◌<◌}
use Rattle.layers.specs.Listing.{CycleListed}
use Rattle.layers.specs.Orders.{Above}
use Rattle.layer_judge.specs.Judging.{layer_orders}
use Rattle.layer_judge.proofs.cycles.third_of_cycle.Given as goal

abbrev pub invariant-loop-third : goal.invariant-loop-third
invariant-loop-third g l = (k : ℕ) → k < l.third → ¬ CycleListed g.S.Ring.Whole.numbers.ring (g.S.SheetView.sheet l.judged.sheet.now) (Above (g.S.SheetView.sheet l.judged.sheet.now) (layer_orders l.judged.orders.now)) l.first l.second k
