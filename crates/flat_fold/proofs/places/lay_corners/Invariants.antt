use Rattle.std.specs.BTreeMap.{get}
use Rattle.flat_fold.specs.Computed.{exact}
use Rattle.flat_fold.specs.Places.{AreLaidTo, laid_order}
use Rattle.flat_fold.proofs.places.lay_corners.Given as goal

abbrev pub invariant-loop-corner : goal.invariant-loop-corner
invariant-loop-corner g l = AreLaidTo (exact g.N.Exact.numbers) l.coords l.map l.face l.corners l.corner-index (get laid_order l.initial.laid) (get laid_order l.laid)
