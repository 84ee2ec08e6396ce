use Rattle.std.proofs.Common.{ℕ, ◌<◌, length, subst}
use Rattle.std.specs.Prelude.{MatchOption}
use Rattle.scaled_plane.specs.Scaling.{IsFirstOf}
use Rattle.sheet_check.specs.Passed.{IsLoose}
use Rattle.sheet_check.proofs.Refusals.{loose_first, loose_passed}
use Rattle.sheet_check.proofs.table.check_used.Goals as goal

pub returns-in-Some-clause-refused : goal.returns-in-Some-clause-refused
returns-in-Some-clause-refused g c = λ faces.
    let vertices = c.args.vertices.now in
    let edges = c.args.edges.now in
    loose_first g.W.Whole.numbers.ring vertices edges faces c.in-Some.vertex (c.requires.before faces)
    (subst (λ found. MatchOption found ((v : ℕ) → v < length vertices → ¬ IsLoose edges v) (IsFirstOf (λ v. (v < length vertices) × IsLoose edges v))) c.in-Some.is c.in_ok-loose.ensures)

pub returns-in-None-clause-passed : goal.returns-in-None-clause-passed
returns-in-None-clause-passed g c = λ faces.
    let vertices = c.args.vertices.now in
    let edges = c.args.edges.now in
    let none = subst (λ found. MatchOption found ((v : ℕ) → v < length vertices → ¬ IsLoose edges v) (IsFirstOf (λ v. (v < length vertices) × IsLoose edges v))) c.in-None.is c.in_ok-loose.ensures in
    loose_passed g.W.Whole.numbers.ring vertices edges faces (c.requires.before faces) (λ v flaw. none v flaw.0 flaw.1)
