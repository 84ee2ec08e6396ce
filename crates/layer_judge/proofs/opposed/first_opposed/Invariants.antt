use Rattle.std.proofs.Common.{ℕ, ◌<◌}
use Rattle.layers.specs.Orders.{Opposed}
use Rattle.layer_judge.specs.Judging.{layer_orders}
use Rattle.layer_judge.proofs.opposed.first_opposed.Given as goal

abbrev pub invariant-loop-first : goal.invariant-loop-first
invariant-loop-first g l = (k : ℕ) → k < l.first → ¬ Opposed (g.S.SheetView.sheet l.sheet) (layer_orders l.orders) k l.second
