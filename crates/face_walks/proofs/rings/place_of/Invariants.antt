use Rattle.std.proofs.Common.{◌-◌}
use Rattle.face_walks.proofs.RingLists.{AreParted}
use Rattle.face_walks.proofs.rings.place_of.Given as goal

abbrev pub invariant-loop-low : goal.invariant-loop-low
invariant-loop-low g l = AreParted g.W.Whole.numbers.ring l.headings l.ring l.fn.half.0 l.low l.high

abbrev pub decreases-loop-low : goal.decreases-loop-low
decreases-loop-low g l = l.high - l.low
