use Rattle.flat_fold.proofs.Triangle.{triangle-foldable}
use Rattle.flat_fold.proofs.laws.triangle_is_foldable.Goals as goal

pub returns : goal.returns
returns g c = triangle-foldable
