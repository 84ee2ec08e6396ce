use Rattle.std.proofs.Common.{refl, arith, rules}
use Rattle.std.specs.Prelude.{FitsSigned}
use Rattle.std.specs.Int.{w128}
use Rattle.std.proofs.lemmas.Int.{to_z-of_z}
use Rattle.root_two.proofs.Forms.{none_unless}
use Rattle.root_two.proofs.number.RootExact.scale.Goals as goal

pub returns-in_err-a-clause-some : goal.returns-in_err-a-clause-some
returns-in_err-a-clause-some g c =
    let fits_self_a : FitsSigned w128 c.args.self.a = search rules in
    let fits_self_q : FitsSigned w128 c.args.self.q = search rules in
    let fits_common : FitsSigned w128 c.args.common = c.ranges.common in
    let misfit = simp to_z-of_z at c.in_err-a.ensures in
    none_unless c.from_residual.result _ c.from_residual.ensures (λ s. misfit (s.divides, omega (arith, s.within)))

pub returns-clause-some : goal.returns-clause-some
returns-clause-some g c =
    let fits_self_a : FitsSigned w128 c.args.self.a = search rules in
    let fits_self_b : FitsSigned w128 c.args.self.b = search rules in
    let fits_self_q : FitsSigned w128 c.args.self.q = search rules in
    let fits_common : FitsSigned w128 c.args.common = c.ranges.common in
    let a = simp to_z-of_z at c.in_ok-a.ensures in
    let b = simp to_z-of_z at c.in_ok-b.ensures in
    (λ _. record { divides = a.0.0; within = omega (arith, a.0.1, b.0.1) }, λ _. refl)
