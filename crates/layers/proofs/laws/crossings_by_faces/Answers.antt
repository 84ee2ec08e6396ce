use Rattle.layers.specs.Orders.{Above}
use Rattle.layers.specs.Sheets.{IsCrease, IsJoin}
use Rattle.layers.proofs.Choices.{enters_between, through_edge, creases_cross, joins_cross, letter_misfits}
use Rattle.layers.proofs.Known.{facts}
use Rattle.layers.proofs.laws.crossings_by_faces.Goals as goal

pub returns-clause-enters_crease : goal.returns-clause-enters_crease
returns-clause-enters_crease g c = λ K sheet orders e f g h faces crease. enters_between K sheet (Above sheet orders) {Lettered = IsCrease} faces crease h

pub returns-clause-enters_join : goal.returns-clause-enters_join
returns-clause-enters_join g c = λ K sheet orders e f g h faces join. enters_between K sheet (Above sheet orders) {Lettered = IsJoin} faces join h

pub returns-clause-crease_join : goal.returns-clause-crease_join
returns-clause-crease_join g c = λ K sheet orders folded e f g d h k faces others crease join. through_edge K sheet (facts K sheet folded) (Above sheet orders) faces crease others join

pub returns-clause-creases : goal.returns-clause-creases
returns-clause-creases g c = λ K sheet orders folded e f g d h k faces others crease other. creases_cross K sheet (facts K sheet folded) (Above sheet orders) faces crease others other

pub returns-clause-joins : goal.returns-clause-joins
returns-clause-joins g c = λ K sheet orders folded e f g d h k faces others join other. joins_cross K sheet (facts K sheet folded) (Above sheet orders) faces join others other

pub returns-clause-letter : goal.returns-clause-letter
returns-clause-letter g c = λ K sheet orders e f g faces. letter_misfits K sheet (Above sheet orders) faces
