use Rattle.std.proofs.Common.{subst, sym, length, OnOk}
use Rattle.std.specs.Prelude.{All}
use Rattle.std.proofs.lemmas.Result.{err_from_is_err_and}
use Rattle.scaled_plane.specs.Drawn.{IsScaledPoint}
use Rattle.sheet_check.specs.Passed.{HasNoneBefore}
use Rattle.sheet_check.specs.Spans.{AreInRange}
use Rattle.sheet_check.proofs.CheckLemmas.{seen_as}
use Rattle.sheet_check.proofs.check.check_drawing.Goals as goal

pub returns-in_err-walks-clause-refused : goal.returns-in_err-walks-clause-refused
returns-in_err-walks-clause-refused g c =
    let p = err_from_is_err_and c.from_residual.result c.from_residual.ensures.1 in
    rw (p.1, p.2) (c.in_err-walks.ensures.refused c.args.faces.now)

pub check_faces-requires-clause-scaled : goal.check_faces-requires-clause-scaled
check_faces-requires-clause-scaled g c = subst (All (IsScaledPoint g.W.Whole.numbers)) (sym c.as_slice-vertices.ensures) c.requires.scaled

pub check_faces-requires-clause-ends : goal.check_faces-requires-clause-ends
check_faces-requires-clause-ends g c = seen_as (λ vertices edges. AreInRange (length vertices) edges) _ _ _ _ (sym c.as_slice-vertices.ensures) (sym c.as_slice.ensures) c.requires.ends

pub check_faces-requires-clause-before : goal.check_faces-requires-clause-before
check_faces-requires-clause-before g c =
    seen_as (λ vertices edges. HasNoneBefore g.W.Whole.numbers.ring vertices edges c.args.faces.now 5) _ _ _ _ (sym c.as_slice-vertices.ensures) (sym c.as_slice.ensures)
    (c.in_ok-walks.ensures.passed c.args.faces.now)

pub returns-clause-passed : goal.returns-clause-passed
returns-clause-passed g c =
    seen_as (λ vertices edges. OnOk c.check_faces.result (HasNoneBefore g.W.Whole.numbers.ring vertices edges c.args.faces.now 11)) _ _ _ _ c.as_slice-vertices.ensures c.as_slice.ensures
    c.check_faces.ensures.passed
