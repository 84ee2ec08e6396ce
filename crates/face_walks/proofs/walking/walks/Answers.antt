use Rattle.std.proofs.Common.{◌≡◌, ◌<◌, [], length, true, false, sym, ◌∙◌}
use Rattle.face_walks.proofs.CycleLists.{on_ok_then}
use Rattle.face_walks.proofs.Ends.{bounded_regions, faces_bounded, faces_none, have_regions, if_ok_then, no_edge, not_none, regions_none, some_edge}
use Rattle.face_walks.proofs.walking.walks.Goals as goal

pub returns-then-is_empty-clause-faces : goal.returns-then-is_empty-clause-faces
returns-then-is_empty-clause-faces g c =
    let none : c.args.drawing.now.vertices ≡ [] = c.is_empty.ensures.0 c.if-is_empty.true in
    faces_none g.W.Whole.numbers c.args.drawing.now c.requires none c.no_walks.result.faces c.no_walks.ensures.faces

pub returns-then-is_empty-clause-regions : goal.returns-then-is_empty-clause-regions
returns-then-is_empty-clause-regions g c =
    let none : c.args.drawing.now.vertices ≡ [] = c.is_empty.ensures.0 c.if-is_empty.true in
    regions_none g.W.Whole.numbers c.args.drawing.now c.requires none c.no_walks.result.faces c.no_walks.ensures.faces

pub returns-then-is_empty-clause-walks_have_regions : goal.returns-then-is_empty-clause-walks_have_regions
returns-then-is_empty-clause-walks_have_regions g c = have_regions g.W.Whole.numbers c.args.drawing.now c.requires

pub returns-then-is_empty-clause-two_walks_two_regions : goal.returns-then-is_empty-clause-two_walks_two_regions
returns-then-is_empty-clause-two_walks_two_regions g c = λ e i.
    let none : c.args.drawing.now.vertices ≡ [] = c.is_empty.ensures.0 c.if-is_empty.true in
    absurd (no_edge g.W.Whole.numbers c.args.drawing.now c.requires none e i)

pub returns-clause-regions : goal.returns-clause-regions
returns-clause-regions g c =
    let some : 0 < length c.args.drawing.now.vertices
    = not_none c.args.drawing.now.vertices (λ e. let no : true ≡ false = sym (c.is_empty.ensures.1 e) ∙ c.if-is_empty.false in cc) in
    if_ok_then c.walks_of.result c.walks_of.ensures.faces c.walks_of.ensures.joined
    (λ w are joined. bounded_regions g.W.Whole.numbers c.args.drawing.now c.requires some w.faces are joined)

pub returns-clause-outside : goal.returns-clause-outside
returns-clause-outside g c =
    let some : 0 < length c.args.drawing.now.vertices
    = not_none c.args.drawing.now.vertices (λ e. let no : true ≡ false = sym (c.is_empty.ensures.1 e) ∙ c.if-is_empty.false in cc) in
    let e = some_edge g.W.Whole.numbers c.args.drawing.now c.requires some in
    if_ok_then c.walks_of.result c.walks_of.ensures.outer c.walks_of.ensures.joined
    (λ w outer joined q at. (faces_bounded g.W.Whole.numbers c.args.drawing.now c.requires e.0 e.1 joined).outer w.outer.corners outer q at)

pub returns-clause-walks_have_regions : goal.returns-clause-walks_have_regions
returns-clause-walks_have_regions g c = have_regions g.W.Whole.numbers c.args.drawing.now c.requires

pub returns-clause-two_walks_two_regions : goal.returns-clause-two_walks_two_regions
returns-clause-two_walks_two_regions g c = λ e i.
    on_ok_then c.walks_of.result (faces_bounded g.W.Whole.numbers c.args.drawing.now c.requires e i) c.walks_of.ensures.joined
