use Rattle.std.proofs.Common.{◌^◌, ◌∙◌, ap}
use Rattle.root_two.specs.Descent.{against_root, IsTurned}
use Rattle.root_two.proofs.Descents.{turned_by, turned_again, still_halved}
use Rattle.root_two.proofs.descent.compare_with_root.Goals as goal

pub loop-preserved : goal.loop-preserved
loop-preserved g c =
    let turned : IsTurned g.R.Radicand.K c.loop.x c.loop.y c.in-Turned.smaller_x c.in-Turned.smaller_y = c.in-Turned.ensures in
    record {
      stands = c.loop.invariant.stands ∙ ap (turned_by c.loop.turned) turned.reversed ∙ turned_again c.loop.turned (against_root g.R.Radicand.K c.in-Turned.smaller_x c.in-Turned.smaller_y);
      above_zero = turned.above_zero;
      halved = still_halved _ _ c.loop.counter (2 ^ 129) turned.halved c.loop.invariant.halved;
    }
