use Rattle.std.proofs.Common.{rules, arith, ◌∙◌, ap, ap₂, FitsSigned, ◌+ℤ◌}
use Rattle.std.specs.Int.{w128}
use Rattle.std.specs.Ordering.{is_ge}
use Rattle.std.proofs.lemmas.Int.{ints, to_z-of_z, fits_signed_from_abs}
use Rattle.number_rules.specs.Rows.{sign_over}
use Rattle.number_rules.proofs.search.is_not_below.Goals as goal

pub returns : goal.returns
returns g c =
    let near_fits : FitsSigned w128 c.args.near = c.ranges.near in
    let a_fits : FitsSigned w128 c.args.a = c.ranges.a in
    let b_fits : FitsSigned w128 c.args.b = c.ranges.b in
    let distance_fits : FitsSigned w128 c.distance.result = search rules in
    let reach_fits : FitsSigned w128 c.reach_of.result = search rules in
    let steps_fits : FitsSigned w128 c.in_steps.result = search rules in
    let both_fit : FitsSigned w128 (c.distance.result +ℤ c.reach_of.result)
    = fits_signed_from_abs w128 (c.distance.result +ℤ c.reach_of.result) (omega (arith, ints, c.distance.ensures.within, c.reach_of.ensures.within)) in
    let distance_is = simp to_z-of_z at c.distance.ensures.value in
    let steps_is = simp to_z-of_z at c.in_steps.ensures.value in
    let signs = simp to_z-of_z at c.sign.ensures in
    c.is_ge.ensures ∙ ap is_ge (signs ∙ ap₂ (λ x y. sign_over g.R.Radicand.K x y) (ap₂ ◌+ℤ◌ distance_is c.reach_of.ensures.value) steps_is)
