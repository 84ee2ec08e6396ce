use Rattle.sheet_check.specs.Passed.{HasNoneBefore}
use Rattle.sheet_check.proofs.BentLemmas.{none_bent, not_bent, not_convex}
use Rattle.sheet_check.proofs.BorderLemmas.{border_is_first, border_right}
use Rattle.sheet_check.proofs.FaceFlaws.{border_first, border_passed, convex_first, convex_passed}
use Rattle.sheet_check.proofs.faces.check_shapes.Goals as goal

pub returns-in-Some-clause-refused : goal.returns-in-Some-clause-refused
returns-in-Some-clause-refused g c =
    let K = g.W.Whole.numbers.ring in
    let points = c.args.points.now in
    let edges = c.args.edges.now in
    let faces = c.args.faces.now in
    let bent = c.in-Some.ensures in
    convex_first K points edges faces c.in-Some.face c.in-Some.vertex c.requires.before (not_convex K points edges faces c.in-Some.face c.in-Some.vertex bent)
    (λ f v less. not_bent K points edges faces f v (bent.before f less))

pub returns-in-Some-first_wrong_border-clause-refused : goal.returns-in-Some-first_wrong_border-clause-refused
returns-in-Some-first_wrong_border-clause-refused g c =
    let K = g.W.Whole.numbers.ring in
    let points = c.args.points.now in
    let edges = c.args.edges.now in
    let faces = c.args.faces.now in
    let convex : HasNoneBefore K points edges faces 8 = convex_passed K points edges faces c.requires.before (none_bent K points edges faces c.in-None.ensures) in
    border_first K points edges faces c.in-Some-first_wrong_border.edge convex
    (border_is_first faces c.requires.own K points edges c.args.pieces.now c.requires.known c.in-Some-first_wrong_border.edge c.in-Some-first_wrong_border.ensures)

pub returns-in-None-first_wrong_border-clause-passed : goal.returns-in-None-first_wrong_border-clause-passed
returns-in-None-first_wrong_border-clause-passed g c =
    let K = g.W.Whole.numbers.ring in
    let points = c.args.points.now in
    let edges = c.args.edges.now in
    let faces = c.args.faces.now in
    let convex : HasNoneBefore K points edges faces 8 = convex_passed K points edges faces c.requires.before (none_bent K points edges faces c.in-None.ensures) in
    border_passed K points edges faces convex
    (λ n. border_right faces c.requires.own K points edges c.args.pieces.now c.requires.known n (c.in-None-first_wrong_border.ensures n))
