use Rattle.std.proofs.Common.{ℕ, ◌<◌}
use Rattle.layers.specs.Listing.{CycleListed}
use Rattle.layers.specs.Orders.{Above}
use Rattle.layer_judge.specs.Judging.{layer_orders}
use Rattle.layer_judge.proofs.cycles.rest_of_cycle.Given as goal

abbrev pub invariant-loop-second : goal.invariant-loop-second
invariant-loop-second g l = (j : ℕ) → j < l.second → (k : ℕ) → ¬ CycleListed g.S.Ring.Whole.numbers.ring (g.S.SheetView.sheet l.judged.sheet.now) (Above (g.S.SheetView.sheet l.judged.sheet.now) (layer_orders l.judged.orders.now)) l.first j k
