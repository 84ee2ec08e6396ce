use Rattle.plane.proofs.Along.{between_of_on, on_of_between}
use Rattle.plane.proofs.laws.points_between_in_order.Goals as goal

pub returns : goal.returns
returns g c K a b p ha hb hp a_first on_line =
    (between_of_on K a b p ha hb hp a_first, λ h. on_of_between K a b p ha hb hp on_line h a_first)
