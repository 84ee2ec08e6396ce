use Rattle.std.proofs.Common.{◌≡◌, ◌↔◌, IsTrue, sym, subst, Some}
use Rattle.std.specs.Option.{MatchOption}
use Rattle.std.specs.declared.cmp.Ordering.{Ordering}
use Rattle.layers.specs.Sheets.{FoldedFace}
use Rattle.half_planes.specs.Faces.{InsideLiesOn}
use Rattle.half_planes.specs.Views.{face_at}
use Rattle.half_planes.proofs.SheetEdges.{convex_at}
use Rattle.half_planes.proofs.BesideFaces.{not_beside, beside_where, same_answer}
use Rattle.half_planes.proofs.beside.are_beside.Goals as goal

pub inside_side-requires-clause-convex : goal.inside_side-requires-clause-convex
inside_side-requires-clause-convex g c =
    let K = g.S.Ring.Whole.numbers.ring in
    let sheet = g.S.SheetView.sheet c.args.sheet.now in
    let face : face_at (g.S.SheetView.sheet c.new.result.sheet.now) c.new.result.place ≡ face_at sheet c.args.first = cc in
    rw face (convex_at K sheet c.edge_ends.ensures.folded c.args.first c.requires.first)

pub inside_side-requires-in-Some-clause-convex : goal.inside_side-requires-in-Some-clause-convex
inside_side-requires-in-Some-clause-convex g c =
    let K = g.S.Ring.Whole.numbers.ring in
    let sheet = g.S.SheetView.sheet c.args.sheet.now in
    let face : face_at (g.S.SheetView.sheet c.new-in-Some.result.sheet.now) c.new-in-Some.result.place ≡ face_at sheet c.args.second = cc in
    rw face (convex_at K sheet c.edge_ends.ensures.folded c.args.second c.requires.second)

pub returns-in-None : goal.returns-in-None
returns-in-None g c =
    let K = g.S.Ring.Whole.numbers.ring in
    let sheet = g.S.SheetView.sheet c.args.sheet.now in
    let face : face_at (g.S.SheetView.sheet c.new.result.sheet.now) c.new.result.place ≡ face_at sheet c.args.first = cc in
    let none : (s : Ordering) → ¬ InsideLiesOn K c.edge_ends.result.0 c.edge_ends.result.1 (face_at sheet c.args.first) s = rw (sym face) c.in-None.ensures in
    (λ h. absurd (cc), λ r. absurd (not_beside K sheet c.edge_ends.ensures.folded c.args.edge c.args.first c.args.second c.edge_ends.result.0 c.edge_ends.result.1 c.edge_ends.ensures.lies c.requires.first c.requires.second none r))

pub returns-in-Some : goal.returns-in-Some
returns-in-Some g c =
    let K = g.S.Ring.Whole.numbers.ring in
    let sheet = g.S.SheetView.sheet c.args.sheet.now in
    let first : face_at (g.S.SheetView.sheet c.new.result.sheet.now) c.new.result.place ≡ face_at sheet c.args.first = cc in
    let second : face_at (g.S.SheetView.sheet c.new-in-Some.result.sheet.now) c.new-in-Some.result.place ≡ face_at sheet c.args.second = cc in
    let a = c.edge_ends.result.0 in
    let b = c.edge_ends.result.1 in
    let side : InsideLiesOn K a b (face_at sheet c.args.first) c.in-Some.side = rw (sym first) c.in-Some.ensures in
    let Answers : FoldedFace g.row.S-Ring.Denot → Type 0 = λ face. MatchOption c.inside_side-in-Some.result ((t : Ordering) → ¬ InsideLiesOn K a b face t) (λ t. InsideLiesOn K a b face t) in
    let same = beside_where K sheet c.edge_ends.ensures.folded c.args.edge c.args.first c.args.second a b c.edge_ends.ensures.lies c.requires.first c.requires.second c.in-Some.side side
    c.inside_side-in-Some.result (subst Answers second c.inside_side-in-Some.ensures) in
    let equal : IsTrue c.eq.result ↔ (c.inside_side-in-Some.result ≡ Some c.in-Some.side) =
    same_answer c.eq.result c.inside_side-in-Some.result c.in-Some.side c.eq.ensures in
    (λ h. same.0 (equal.0 h), λ r. equal.1 (same.1 r))
