use Rattle.std.proofs.Common.{◌∙◌, sym, FitsSigned}
use Rattle.std.specs.Int.{w128}
use Rattle.std.proofs.lemmas.Int.{to_z-of_z}
use Rattle.number_rules.proofs.search.is_near.Goals as goal

pub returns-then-is_not_below : goal.returns-then-is_not_below
returns-then-is_not_below g c =
    let near_fits : FitsSigned w128 c.args.near = c.ranges.near in
    let a_fits : FitsSigned w128 c.args.a = c.ranges.a in
    let b_fits : FitsSigned w128 c.args.b = c.ranges.b in
    let low = simp to_z-of_z at c.is_not_below.ensures in
    let high = simp to_z-of_z at c.is_not_above.ensures in
    ((λ t. record { not_below = sym low ∙ c.if-is_not_below.true; not_above = sym high ∙ t }), (λ is. high ∙ is.not_above))

pub returns-else-is_not_below : goal.returns-else-is_not_below
returns-else-is_not_below g c =
    let near_fits : FitsSigned w128 c.args.near = c.ranges.near in
    let a_fits : FitsSigned w128 c.args.a = c.ranges.a in
    let b_fits : FitsSigned w128 c.args.b = c.ranges.b in
    let low = simp to_z-of_z at c.is_not_below.ensures in
    let no = c.if-is_not_below.false in
    ((λ t. absurd (cc)), (λ is. low ∙ is.not_below))
