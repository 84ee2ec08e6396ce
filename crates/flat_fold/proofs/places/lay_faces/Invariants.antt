use Rattle.std.specs.BTreeMap.{get}
use Rattle.flat_fold.specs.Computed.{exact}
use Rattle.flat_fold.specs.Places.{AreFacesLaidTo, laid_order}
use Rattle.flat_fold.proofs.places.lay_faces.Given as goal

abbrev pub invariant-loop-f : goal.invariant-loop-f
invariant-loop-f g l = AreFacesLaidTo (exact g.N.Exact.numbers) l.coords l.faces l.maps l.f (get laid_order l.laid)
