use Rattle.std.proofs.Common.{rules, subst, FitsSigned, ℤ}
use Rattle.std.specs.Int.{w128}
use Rattle.std.proofs.lemmas.Int.{to_z-of_z}
use Rattle.root_two.specs.Roots.{nonsquare}
use Rattle.number_rules.specs.Rows.{IsNear}
use Rattle.number_rules.proofs.RootSearch.{only}
use Rattle.number_rules.proofs.search.root_at.Goals as goal

pub returns-then-is_near : goal.returns-then-is_near
returns-then-is_near g c =
    let near_fits : FitsSigned w128 c.args.near = c.ranges.near in
    let a_fits : FitsSigned w128 c.only_a-a.result = search rules in
    let b_fits : FitsSigned w128 c.args.b = c.ranges.b in
    let tested = simp to_z-of_z at c.is_near.ensures in
    let reduced = simp to_z-of_z at c.root_over.ensures in
    (c.only_a-a.result, tested.0 c.if-is_near.true, reduced)

pub returns-else-is_near : goal.returns-else-is_near
returns-else-is_near g c = λ a is.
    let near_fits : FitsSigned w128 c.args.near = c.ranges.near in
    let a_fits : FitsSigned w128 c.only_a-a.result = search rules in
    let b_fits : FitsSigned w128 c.args.b = c.ranges.b in
    let tested = simp to_z-of_z at c.is_near.ensures in
    let quotient = simp to_z-of_z at c.only_a-a.ensures.value in
    let one = only g.R.Radicand.K (nonsquare g.R.Radicand) c.args.fraction c.requires.fraction c.args.n c.args.near a c.args.b c.only_a-a.result quotient.0 c.requires.number.1 c.requires.b is quotient.1.0 quotient.1.1 in
    let yes = tested.1 (subst (λ (t : ℤ). IsNear g.R.Radicand.K c.args.n c.args.near t c.args.b) one.0 is) in
    let no = c.if-is_near.false in
    cc
