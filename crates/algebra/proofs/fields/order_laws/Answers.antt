use Rattle.algebra.proofs.Compatible.{compatible}
use Rattle.algebra.proofs.fields.order_laws.Goals as goal

pub returns : goal.returns
returns g c = compatible
