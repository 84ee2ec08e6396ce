use Rattle.std.specs.BTreeMap.{get}
use Rattle.flat_fold.specs.Making.{AreNumbersBy}
use Rattle.flat_fold.specs.Places.{laid_order}
use Rattle.flat_fold.proofs.fold.number_face.Given as goal

abbrev pub invariant-loop-corner : goal.invariant-loop-corner
invariant-loop-corner l = AreNumbersBy (get laid_order l.numbers) l.face l.corners l.corner-index l.by_numbers
