use Rattle.std.proofs.Common.{rules, subst, FitsSigned, ℤ}
use Rattle.std.specs.Int.{w128}
use Rattle.std.proofs.lemmas.Int.{to_z-of_z}
use Rattle.algebra.specs.LowestTerms.{IsReduced}
use Rattle.root_two.specs.Roots.{root_parts}
use Rattle.number_rules.proofs.search.root_over.Goals as goal

pub returns : goal.returns
returns g c =
    let a_fits : FitsSigned w128 c.args.a = c.ranges.a in
    let b_fits : FitsSigned w128 c.args.b = c.ranges.b in
    let from_fits : FitsSigned w128 c.from.result = search rules in
    let reduced = simp to_z-of_z at c.in-Some.ensures.value in
    subst (λ (q : ℤ). IsReduced (record { a = c.args.a; b = c.args.b; q = q }) (root_parts c.in-Some.number)) c.from.ensures reduced
