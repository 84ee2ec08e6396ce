use Rattle.std.proofs.lemmas.Result.{err_from_is_err_and}
use Rattle.sheet_check.proofs.Refusals.{parted_passed}
use Rattle.sheet_check.proofs.WalkLemmas.{none_parted, refused_walking}
use Rattle.sheet_check.proofs.joined.walks_of.Goals as goal

pub returns-in_err-walks-clause-refused : goal.returns-in_err-walks-clause-refused
returns-in_err-walks-clause-refused g c =
    let drawing = c.args.drawing.now in
    let p = err_from_is_err_and c.from_residual.result c.from_residual.ensures.1 in
    rw (p.1, p.2) (refused_walking g.W.Whole.numbers.ring drawing.vertices drawing.edges _ c.in_err-walks.ensures.parted c.requires.before)

pub returns-clause-passed : goal.returns-clause-passed
returns-clause-passed g c = λ faces.
    let K = g.W.Whole.numbers.ring in
    let drawing = c.args.drawing.now in
    parted_passed K drawing.vertices drawing.edges faces (c.requires.before faces) (none_parted K drawing.vertices drawing.edges faces c.in_ok-walks.ensures.joined)
