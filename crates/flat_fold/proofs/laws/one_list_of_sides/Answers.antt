use Rattle.flat_fold.proofs.OneFolding.{one-sides}
use Rattle.flat_fold.proofs.laws.one_list_of_sides.Goals as goal

pub returns : goal.returns
returns g c = λ ends faces h sides others a b. one-sides ends faces h sides others a b
