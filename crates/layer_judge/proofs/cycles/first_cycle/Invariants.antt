use Rattle.std.proofs.Common.{ℕ, ◌<◌}
use Rattle.layers.specs.Listing.{CycleListed}
use Rattle.layers.specs.Orders.{Above}
use Rattle.layer_judge.specs.Judging.{layer_orders}
use Rattle.layer_judge.proofs.cycles.first_cycle.Given as goal

abbrev pub invariant-loop-first : goal.invariant-loop-first
invariant-loop-first g l = (i : ℕ) → i < l.first → (j k : ℕ) → ¬ CycleListed g.S.Ring.Whole.numbers.ring (g.S.SheetView.sheet l.judged.sheet.now) (Above (g.S.SheetView.sheet l.judged.sheet.now) (layer_orders l.judged.orders.now)) i j k
