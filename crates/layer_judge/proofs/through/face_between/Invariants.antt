use Rattle.std.proofs.Common.{ℕ, ◌<◌}
use Rattle.layers.specs.Listing.{EdgeEnters}
use Rattle.layers.specs.Orders.{Above, LiesBetween}
use Rattle.layer_judge.specs.Judging.{layer_orders}
use Rattle.layer_judge.proofs.through.face_between.Given as goal

abbrev pub invariant-loop-face : goal.invariant-loop-face
invariant-loop-face g l = (k : ℕ) → k < l.face → ¬ (EdgeEnters g.S.Ring.Whole.numbers.ring (g.S.SheetView.sheet l.judged.sheet.now) l.fold.edge k × LiesBetween (Above (g.S.SheetView.sheet l.judged.sheet.now) (layer_orders l.judged.orders.now)) k l.fold.first l.fold.second)
