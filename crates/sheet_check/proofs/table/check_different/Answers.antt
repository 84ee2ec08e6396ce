use Rattle.std.proofs.Common.{ℕ, subst}
use Rattle.std.specs.Prelude.{MatchOption}
use Rattle.sheet_check.specs.Passed.{IsFirstPair}
use Rattle.sheet_check.specs.Same.{AreSame}
use Rattle.sheet_check.proofs.Refusals.{none_yet, same_vertex_first, same_vertex_passed}
use Rattle.sheet_check.proofs.table.check_different.Goals as goal

pub returns-in-Some-clause-refused : goal.returns-in-Some-clause-refused
returns-in-Some-clause-refused g c = λ edges faces.
    let K = g.W.Whole.numbers.ring in
    let vertices = c.args.vertices.now in
    let P = AreSame K vertices in
    same_vertex_first K vertices edges faces (c.in-Some.low, c.in-Some.high) (none_yet K vertices edges faces)
    (subst (λ found. MatchOption found ((low high : ℕ) → ¬ P low high) (IsFirstPair P)) c.in-Some.is c.in_ok-same.ensures)

pub returns-in-None-clause-passed : goal.returns-in-None-clause-passed
returns-in-None-clause-passed g c = λ edges faces.
    let K = g.W.Whole.numbers.ring in
    let vertices = c.args.vertices.now in
    let P = AreSame K vertices in
    same_vertex_passed K vertices edges faces (none_yet K vertices edges faces)
    (subst (λ found. MatchOption found ((low high : ℕ) → ¬ P low high) (IsFirstPair P)) c.in-None.is c.in_ok-same.ensures)
