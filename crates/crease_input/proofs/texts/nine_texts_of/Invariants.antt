use Rattle.std.proofs.Common.{take}
use Rattle.crease_input.proofs.Texted.{AreTexted}
use Rattle.crease_input.proofs.texts.nine_texts_of.Given as goal

abbrev pub invariant-loop-point : goal.invariant-loop-point
invariant-loop-point g l =
    AreTexted g.N.Exact.ROOT g.N.Exact.parts (take l.point-index l.coords) l.lists
