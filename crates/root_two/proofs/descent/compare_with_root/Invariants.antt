use Rattle.std.proofs.Common.{◌≡◌, ◌+◌, ◌<◌, ◌*◌, ◌^◌}
use Rattle.root_two.specs.Descent.{against_root}
use Rattle.root_two.proofs.Descents.{turned_by}
use Rattle.root_two.proofs.descent.compare_with_root.Given as goal

abbrev pub invariant-loop : goal.invariant-loop
invariant-loop g l = record {
  stands : against_root g.R.Radicand.K l.fn.x l.fn.y ≡ turned_by l.turned (against_root g.R.Radicand.K l.x l.y);
  above_zero : 0 < l.x + l.y;
  halved : (l.x + l.y) * 2 ^ l.counter < 2 ^ 129;
}
