use Rattle.half_planes.proofs.Extents.{goes_on}
use Rattle.half_planes.proofs.extent.widened.Goals as goal

pub returns-clause-kept : goal.returns-clause-kept
returns-clause-kept g c = λ v h.
    let K = g.W.Whole.numbers.ring in
    let old = c.args.extent in
    record {
      from_left = goes_on K v.x old.left c.lesser.result h.from_left c.lesser.ensures.under_first;
      to_right = goes_on K c.greater.result old.right v.x c.greater.ensures.over_first h.to_right;
      from_bottom = goes_on K v.y old.bottom c.lesser-2.result h.from_bottom c.lesser-2.ensures.under_first;
      to_top = goes_on K c.greater-2.result old.top v.y c.greater-2.ensures.over_first h.to_top;
    }
