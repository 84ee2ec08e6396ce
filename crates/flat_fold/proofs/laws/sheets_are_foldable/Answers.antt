use Rattle.flat_fold.proofs.SheetLaws.{foldable-sheet}
use Rattle.flat_fold.proofs.laws.sheets_are_foldable.Goals as goal

pub returns : goal.returns
returns g c ends faces h = foldable-sheet ends faces h g.N.Exact.numbers.field
