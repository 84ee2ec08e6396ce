use Rattle.std.proofs.Common.{List, [], subst, sym, length, OnOk}
use Rattle.std.specs.Prelude.{All}
use Rattle.std.proofs.lemmas.Result.{err_from_is_err_and}
use Rattle.flat_fold.proofs.SheetPlane.{set-well_set}
use Rattle.scaled_plane.specs.Drawn.{IsScaledPoint}
use Rattle.scaled_plane.specs.WellSet.{IsWellSet}
use Rattle.scaled_plane.specs.declared.drawing.Face.{Face}
use Rattle.sheet_check.specs.Passed.{HasNoneBefore, IsRefusal}
use Rattle.sheet_check.specs.Spans.{AreInRange}
use Rattle.sheet_check.proofs.CheckLemmas.{all_passed}
use Rattle.sheet_check.proofs.WalkLemmas.{plane_set}
use Rattle.sheet_check.proofs.check.check_scaled.Goals as goal

pub check_plane-requires-clause-ends : goal.check_plane-requires-clause-ends
check_plane-requires-clause-ends g c = subst (λ vertices. AreInRange (length vertices) c.args.edges.now) (sym c.as_slice.ensures) c.requires.ends

pub returns-in_err-check_plane-clause-refused : goal.returns-in_err-check_plane-clause-refused
returns-in_err-check_plane-clause-refused g c =
    let p = err_from_is_err_and c.from_residual.result c.from_residual.ensures.1 in
    rw (p.1, p.2) (subst (λ vertices. IsRefusal g.W.Whole.numbers.ring vertices c.args.edges.now c.args.faces.now c.in_err-check_plane.field-0.0) c.as_slice.ensures (c.in_err-check_plane.ensures.refused c.args.faces.now))

pub check_drawing-requires-clause-scaled : goal.check_drawing-requires-clause-scaled
check_drawing-requires-clause-scaled g c = subst (λ drawing. All (IsScaledPoint g.W.Whole.numbers) drawing.vertices) (sym c.in_ok-drawing.ensures) c.requires.scaled

pub check_drawing-requires-clause-ends : goal.check_drawing-requires-clause-ends
check_drawing-requires-clause-ends g c = subst (λ drawing. AreInRange (length drawing.vertices) drawing.edges) (sym c.in_ok-drawing.ensures) c.requires.ends

pub check_drawing-requires-clause-before : goal.check_drawing-requires-clause-before
check_drawing-requires-clause-before g c =
    let K = g.W.Whole.numbers.ring in
    subst (λ drawing. (faces : List Face) → HasNoneBefore K drawing.vertices drawing.edges faces 3) (sym c.in_ok-drawing.ensures)
    (subst (λ vertices. (faces : List Face) → HasNoneBefore K vertices c.args.edges.now faces 3) c.as_slice.ensures c.in_ok-check_plane.ensures.passed)

pub check_drawing-requires-clause-well_set : goal.check_drawing-requires-clause-well_set
check_drawing-requires-clause-well_set g c =
    let numbers = g.W.Whole.numbers in
    let none = subst (λ vertices. (faces : List Face) → HasNoneBefore numbers.ring vertices c.args.edges.now faces 3) c.as_slice.ensures c.in_ok-check_plane.ensures.passed in
    subst (IsWellSet numbers) (sym c.in_ok-drawing.ensures)
    (set-well_set numbers c.args.points c.args.edges.now (plane_set numbers c.args.points c.args.edges.now c.requires.scaled c.requires.ends c.requires.few_edges (none [])))

pub returns-clause-passed : goal.returns-clause-passed
returns-clause-passed g c =
    let K = g.W.Whole.numbers.ring in
    all_passed K c.args.points c.args.edges.now c.args.faces.now c.check_drawing.result
    (subst (λ drawing. OnOk c.check_drawing.result (HasNoneBefore K drawing.vertices drawing.edges c.args.faces.now 11)) c.in_ok-drawing.ensures c.check_drawing.ensures.passed)
