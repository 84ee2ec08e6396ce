use Rattle.std.proofs.Common.{subst}
use Rattle.sheet_check.specs.Same.{IsFirstFrom}
use Rattle.sheet_check.proofs.SameLemmas.{first_pair, no_pair}
use Rattle.sheet_check.proofs.same.least_same.Goals as goal

pub returns-in_default : goal.returns-in_default
returns-in_default g c =
    let K = g.W.Whole.numbers.ring in
    no_pair K c.args.vertices.now (subst (IsFirstFrom K c.args.vertices.now 0) c.in_default.is c.in_ok-low.ensures)

pub returns : goal.returns
returns g c =
    let K = g.W.Whole.numbers.ring in
    first_pair K c.args.vertices.now c.in-Some.low c.next_same-high.result
    (subst (IsFirstFrom K c.args.vertices.now 0) c.in-Some.is c.in_ok-low.ensures) c.next_same-high.ensures
