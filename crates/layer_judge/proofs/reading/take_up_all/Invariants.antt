use Rattle.std.proofs.Common.{◌≡◌, length}
use Rattle.layer_judge.specs.Judging.{layer_orders}
use Rattle.layer_judge.proofs.Taking.{AgreeBefore, TellsBefore}
use Rattle.layer_judge.proofs.reading.take_up_all.Given as goal

abbrev pub invariant-loop-place : goal.invariant-loop-place
invariant-loop-place g l = record {
  count : l.ranking.count ≡ length (g.S.SheetView.sheet l.sheet).faces;
  tells : TellsBefore (g.S.SheetView.sheet l.sheet) (layer_orders l.orders) l.place l.ranking.count l.ranking.cells.items;
  agree : AgreeBefore (g.S.SheetView.sheet l.sheet) (layer_orders l.orders) l.place;
}
