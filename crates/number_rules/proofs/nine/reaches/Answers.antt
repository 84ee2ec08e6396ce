use Rattle.std.proofs.Common.{rules, arith, ◌∙◌, ap, ap₂, FitsSigned, pos, ℕ, ◌-ℤ◌, ◌*ℤ◌, ◌≡◌}
use Rattle.std.specs.Int.{w128}
use Rattle.std.specs.Ordering.{is_ge}
use Rattle.std.proofs.lemmas.Int.{ints, to_z-of_z, fits_signed_from_abs}
use Rattle.algebra.specs.LowestTerms.{Parts}
use Rattle.number_rules.specs.Nine.{sign_past}
use Rattle.number_rules.specs.Rows.{sign_over}
use Rattle.number_rules.proofs.nine.reaches.Goals as goal

pub returns : goal.returns
returns g c =
    let m_fits : FitsSigned w128 c.args.m = c.ranges.m in
    let a_fits : FitsSigned w128 c.parts-a.result.0 = search rules in
    let b_fits : FitsSigned w128 c.parts-a.result.1 = search rules in
    let q_fits : FitsSigned w128 c.parts-a.result.2 = search rules in
    let doubled_fits : FitsSigned w128 c.doubled.result = search rules in
    let again_fits : FitsSigned w128 c.doubled-2.result = search rules in
    let halves_fits : FitsSigned w128 c.halves.result = search rules in
    let both_fit : FitsSigned w128 (c.doubled.result -ℤ c.halves.result)
    = fits_signed_from_abs w128 (c.doubled.result -ℤ c.halves.result) (omega (arith, ints, c.doubled.ensures.within, c.halves.ensures.within)) in
    let doubled_is = simp to_z-of_z at c.doubled.ensures.value in
    let again_is = simp to_z-of_z at c.doubled-2.ensures.value in
    let halves_is = simp to_z-of_z at c.halves.ensures.value in
    let signs = simp to_z-of_z at c.sign.ensures in
    let parts : record { a = c.parts-a.result.0; b = c.parts-a.result.1; q = c.parts-a.result.2 } ≡ g.N.Exact.parts c.args.value = c.parts-a.ensures in
    c.is_ge.ensures ∙ ap is_ge (signs ∙ ap₂ (λ x y. sign_over g.N.Ring.Whole.ROOT x y) (ap₂ ◌-ℤ◌ doubled_is halves_is) again_is
    ∙ ap (λ (p : Parts). sign_past g.N.Ring.Whole.ROOT p (pos 2 *ℤ c.args.m -ℤ pos 1)) parts
    ∙ ap (λ (k : ℕ). sign_past k (g.N.Exact.parts c.args.value) (pos 2 *ℤ c.args.m -ℤ pos 1)) g.met.N.Exact.same_root)
