use Rattle.std.specs.BTreeMap.{get}
use Rattle.flat_fold.specs.Places.{laid_order}
use Rattle.flat_fold.proofs.FoldLaws.{AreFacesBy}
use Rattle.flat_fold.proofs.fold.number_faces.Given as goal

abbrev pub invariant-loop-f : goal.invariant-loop-f
invariant-loop-f l = AreFacesBy (get laid_order l.numbers) l.faces l.f l.by_numbers
