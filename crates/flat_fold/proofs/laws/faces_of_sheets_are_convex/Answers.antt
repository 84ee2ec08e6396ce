use Rattle.flat_fold.proofs.ConvexFaces.{convex-face}
use Rattle.flat_fold.proofs.laws.faces_of_sheets_are_convex.Goals as goal

pub returns : goal.returns
returns g c = λ ends faces h f l. convex-face ends faces h f l
