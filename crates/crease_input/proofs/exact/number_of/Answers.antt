use Rattle.std.proofs.Common.{rules, FitsSigned}
use mir.Syntax.{w128}
use Rattle.std.proofs.lemmas.Int.{to_z-of_z}
use Rattle.crease_input.proofs.Lowest.{as_they_are}
use Rattle.crease_input.proofs.exact.number_of.Goals as goal

pub returns : goal.returns
returns g c =
    let a : FitsSigned w128 c.args.a = search rules in
    let b : FitsSigned w128 c.args.b = search rules in
    let q : FitsSigned w128 c.args.q = search rules in
    let reduced = rw (to_z-of_z w128 c.args.a a, to_z-of_z w128 c.args.b b, to_z-of_z w128 c.args.q q) at c.in-Some.ensures.value in
    as_they_are (record { a = c.args.a; b = c.args.b; q = c.args.q }) (g.N.Exact.parts c.in-Some.number) c.requires.lowest reduced
