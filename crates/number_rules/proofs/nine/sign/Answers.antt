use Rattle.std.proofs.Common.{◌∙◌, ap, FitsSigned, pos, ℤ}
use Rattle.std.specs.Int.{w128}
use Rattle.std.proofs.lemmas.Int.{to_z-of_z}
use Rattle.algebra.specs.Integers.{int_ops}
use Rattle.algebra.specs.Order.{int_sign}
use Rattle.algebra.specs.Surd.{Surd, surd_sign}
use Rattle.number_rules.proofs.nine.sign.Goals as goal

pub returns : goal.returns
returns g c =
    let x_fits : FitsSigned w128 c.args.x = c.ranges.x in
    let y_fits : FitsSigned w128 c.args.y = c.ranges.y in
    let parts = simp to_z-of_z at c.in-Some.ensures.value in
    c.sign.ensures ∙ g.W.Whole.numbers.sign_is c.in-Some.number ∙ ap (λ (s : Surd ℤ). surd_sign int_ops (pos g.W.Whole.ROOT) int_sign s) parts
