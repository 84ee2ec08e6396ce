use Rattle.std.proofs.Common.{rules, arith, ap₂, FitsSigned, ◌-ℤ◌}
use Rattle.std.specs.Int.{w128}
use Rattle.std.proofs.lemmas.Int.{ints, to_z-of_z, fits_signed_from_abs}
use Rattle.number_rules.proofs.search.left_at.Goals as goal

pub returns-clause-value : goal.returns-clause-value
returns-clause-value c =
    let near_fits : FitsSigned w128 c.args.near = c.ranges.near in
    let b_fits : FitsSigned w128 c.args.b = c.ranges.b in
    let start_fits : FitsSigned w128 c.start_of.result = search rules in
    let multiple_fits : FitsSigned w128 c.multiple.result = search rules in
    let both_fit : FitsSigned w128 (c.start_of.result -ℤ c.multiple.result)
    = fits_signed_from_abs w128 (c.start_of.result -ℤ c.multiple.result) (omega (arith, ints, c.start_of.ensures.within, c.multiple.ensures.within)) in
    let start_is = simp to_z-of_z at c.start_of.ensures.value in
    let multiple_is = simp to_z-of_z at c.multiple.ensures.value in
    simp to_z-of_z (ap₂ ◌-ℤ◌ start_is multiple_is)
