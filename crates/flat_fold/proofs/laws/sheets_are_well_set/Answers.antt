use Rattle.flat_fold.proofs.SheetPlane.{sheet-connected, sheet-plane, sheet-well_set}
use Rattle.flat_fold.proofs.laws.sheets_are_well_set.Goals as goal

pub returns-clause-plane : goal.returns-clause-plane
returns-clause-plane g c = λ ends faces h. sheet-plane ends faces h

pub returns-clause-connected : goal.returns-clause-connected
returns-clause-connected g c = λ ends faces h. sheet-connected ends faces h

pub returns-clause-well_set : goal.returns-clause-well_set
returns-clause-well_set g c = λ ends faces h. sheet-well_set ends faces h
