use Rattle.std.specs.BTreeMap.{get}
use Rattle.flat_fold.specs.Places.{laid_order}
use Rattle.flat_fold.specs.Numbers.{AreNumberedTo, place_order}
use Rattle.flat_fold.proofs.images.number_all.Given as goal

abbrev pub invariant-loop-at : goal.invariant-loop-at
invariant-loop-at g l = AreNumberedTo g.N.Exact.numbers.field l.laid g.N.Exact.parts l.at-index (get place_order l.known) (get laid_order l.numbers) l.origins l.images
