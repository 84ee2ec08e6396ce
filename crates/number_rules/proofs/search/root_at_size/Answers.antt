use Rattle.std.proofs.Common.{rules, arith, sym, subst, FitsSigned, ℤ, pos, ◌≡◌, ◌-ℤ◌}
use Rattle.std.specs.Prelude.{neg_ℤ}
use Rattle.std.specs.Int.{w128}
use Rattle.std.proofs.lemmas.Int.{ints, to_z-of_z, fits_signed_from_abs}
use Rattle.root_two.specs.Roots.{root_parts}
use Rattle.number_rules.specs.Rows.{IsNear}
use Rattle.number_rules.specs.Search.{StandsAt}
use Rattle.number_rules.proofs.RootSearch.{stands_down}
use Rattle.number_rules.proofs.search.root_at_size.Goals as goal

pub returns-in-None : goal.returns-in-None
returns-in-None g c =
    let near_fits : FitsSigned w128 c.args.near = c.ranges.near in
    let b_fits : FitsSigned w128 c.from-b.result = search rules in
    let low_is : pos 0 -ℤ c.from-b.result ≡ neg_ℤ (pos c.args.size) = omega (arith, ints, c.from-b.ensures) in
    let low_fits : FitsSigned w128 (pos 0 -ℤ c.from-b.result)
    = subst (λ (z : ℤ). FitsSigned w128 z) (sym low_is) (fits_signed_from_abs w128 (neg_ℤ (pos c.args.size)) (omega (arith, ints, c.requires.size))) in
    let none_there = simp to_z-of_z at c.in-None.ensures in
    let down_there = simp to_z-of_z at c.root_at_rest-in-None.ensures in
    let none = subst (λ (z : ℤ). (a : ℤ) → ¬ IsNear g.R.Radicand.K c.args.n c.args.near a z) c.from-b.ensures none_there in
    let down = subst (λ (z : ℤ). StandsAt g.R.Radicand.K c.args.n c.args.near root_parts z c.root_at_rest-in-None.result) low_is down_there in
    stands_down g.R.Radicand.K c.args.n c.args.near root_parts c.args.size c.root_at_rest-in-None.result none down
