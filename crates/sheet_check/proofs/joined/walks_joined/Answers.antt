use Rattle.std.proofs.Common.{sym, ◌∙◌}
use Rattle.std.proofs.lemmas.Bool.{false≢true}
use Rattle.sheet_check.proofs.Refusals.{empty_first, empty_passed}
use Rattle.sheet_check.proofs.WalkLemmas.{no_face, outer_walk, some_face}
use Rattle.sheet_check.proofs.joined.walks_joined.Goals as goal

pub returns-then-is_empty-clause-refused : goal.returns-then-is_empty-clause-refused
returns-then-is_empty-clause-refused g c = λ faces.
    let K = g.W.Whole.numbers.ring in
    let drawing = c.args.drawing.now in
    empty_first K drawing.vertices drawing.edges faces (c.in_ok-walks.ensures.passed faces)
    (no_face K drawing.vertices drawing.edges faces c.in_ok-walks.walks.faces (c.is_empty.ensures.0 c.if-is_empty.true) c.in_ok-walks.ensures.walked)

pub returns-clause-passed : goal.returns-clause-passed
returns-clause-passed g c = λ faces.
    let K = g.W.Whole.numbers.ring in
    let drawing = c.args.drawing.now in
    empty_passed K drawing.vertices drawing.edges faces (c.in_ok-walks.ensures.passed faces)
    (some_face K drawing.vertices drawing.edges faces c.in_ok-walks.walks.faces (λ e. false≢true (sym c.if-is_empty.false ∙ c.is_empty.ensures.1 e)) c.in_ok-walks.ensures.walked)

pub returns-clause-outer : goal.returns-clause-outer
returns-clause-outer g c =
    let drawing = c.args.drawing.now in
    outer_walk g.W.Whole.numbers.ring drawing.vertices drawing.edges c.in_ok-walks.walks.faces c.in_ok-walks.walks.outer (λ e there. let h = c.requires.well_set.ends e there in (h.0, h.1))
    (λ e. false≢true (sym c.if-is_empty.false ∙ c.is_empty.ensures.1 e)) c.in_ok-walks.ensures.walked c.in_ok-walks.ensures.outer
