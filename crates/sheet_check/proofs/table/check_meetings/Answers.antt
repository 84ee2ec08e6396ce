use Rattle.std.proofs.Common.{ℕ, subst}
use Rattle.std.specs.Prelude.{MatchOption}
use Rattle.sheet_check.specs.Passed.{IsFirstPair}
use Rattle.sheet_check.specs.Spans.{IsNotPlane}
use Rattle.sheet_check.proofs.Refusals.{not_plane_first, not_plane_passed}
use Rattle.sheet_check.proofs.table.check_meetings.Goals as goal

pub returns-in-Some-clause-refused : goal.returns-in-Some-clause-refused
returns-in-Some-clause-refused g c = λ faces.
    let K = g.W.Whole.numbers.ring in
    let vertices = c.args.vertices.now in
    let edges = c.args.edges.now in
    let P = IsNotPlane K vertices edges in
    not_plane_first K vertices edges faces (c.in-Some.low, c.in-Some.high) (c.requires.before faces)
    (subst (λ found. MatchOption found ((low high : ℕ) → ¬ P low high) (IsFirstPair P)) c.in-Some.is c.in_ok-meeting.ensures)

pub returns-in-None-clause-passed : goal.returns-in-None-clause-passed
returns-in-None-clause-passed g c = λ faces.
    let K = g.W.Whole.numbers.ring in
    let vertices = c.args.vertices.now in
    let edges = c.args.edges.now in
    let P = IsNotPlane K vertices edges in
    not_plane_passed K vertices edges faces (c.requires.before faces)
    (subst (λ found. MatchOption found ((low high : ℕ) → ¬ P low high) (IsFirstPair P)) c.in-None.is c.in_ok-meeting.ensures)
