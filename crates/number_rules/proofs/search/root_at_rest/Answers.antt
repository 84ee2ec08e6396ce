use Rattle.std.proofs.Common.{arith}
use Rattle.root_two.specs.Roots.{nonsquare}
use Rattle.number_rules.proofs.RootSearch.{only}
use Rattle.number_rules.proofs.search.root_at_rest.Goals as goal

pub returns-then-rest-from : goal.returns-then-rest-from
returns-then-rest-from g c = λ a is.
    let left = c.requires.rest in
    let one = only g.R.Radicand.K (nonsquare g.R.Radicand) c.args.fraction c.requires.fraction c.args.n c.args.near a c.args.b left.0 c.args.rest c.requires.number.1 c.requires.b is left.1 left.2 in
    omega (arith, one.1, c.if-rest-from.true, c.from.ensures)
