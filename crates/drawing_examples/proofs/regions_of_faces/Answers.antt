use Rattle.std.proofs.Common.{refl}
use Rattle.drawing_examples.proofs.Regional.{have_regions}
use Rattle.drawing_examples.proofs.regions_of_faces.Goals as goal

pub returns-clause-diagonals : goal.returns-clause-diagonals
returns-clause-diagonals c = have_regions refl

pub returns-clause-overlap : goal.returns-clause-overlap
returns-clause-overlap c = have_regions refl
