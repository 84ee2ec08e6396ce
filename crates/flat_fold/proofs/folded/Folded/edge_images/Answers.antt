use Rattle.std.proofs.Common.{◌≡◌, ◌∙◌, ap, sym, subst, ℕ, List, ◌<◌, ◌≤◌, length, arith}
use Rattle.std.specs.List.{AllByRecursion}
use Rattle.scaled_plane.specs.declared.drawing.Edge.{Edge}
use Rattle.scaled_plane.specs.declared.drawing.Ends.{Ends}
use Rattle.scaled_plane.specs.declared.drawing.Face.{Face}
use Rattle.flat_fold.specs.declared.sides.Sides.{Sides}
use Rattle.flat_fold.specs.Faces.{corners_at}
use Rattle.flat_fold.specs.Folded.{Layout}
use Rattle.flat_fold.specs.Sheets.{Pattern}
use Rattle.flat_fold.proofs.EdgeImageLaws.{corners-within, few-answered, fit-sides, within-answered}
use Rattle.flat_fold.proofs.folded.Folded.edge_images.Goals as goal

pub images_of_edges-requires-clause-left : goal.images_of_edges-requires-clause-left
images_of_edges-requires-clause-left g c = λ e l. (fit-sides c.args.self.now.sheet.faces c.args.self.now.corners c.sheet.ensures.folded.corners_are.all_faces c.sheet.ensures.folded.corners_are.all_corners
    c.args.self.now.sheet.ends.edges c.args.self.now.sides c.sheet.ensures.folded.sides_are
    c.as_slice-edges.result.now c.as_slice-2.result.now c.as_slice.result.now
    (c.as_slice-edges.ensures ∙ ap (λ (x : Ends g.row.N.Denot). x.edges) c.ends.ensures.ends ∙ ap (λ (p : Pattern g.row.N.Denot). p.ends.edges) c.sheet.ensures.sheet)
    (c.as_slice-2.ensures ∙ ap (λ (l : Layout g.row.N.Denot g.row.N-Ring.Denot). l.sides) c.self.view_is)
    (c.as_slice.ensures ∙ ap (λ (l : Layout g.row.N.Denot g.row.N-Ring.Denot). l.corners) c.self.view_is) e l).0

pub images_of_edges-requires-clause-right : goal.images_of_edges-requires-clause-right
images_of_edges-requires-clause-right g c = λ e l. (fit-sides c.args.self.now.sheet.faces c.args.self.now.corners c.sheet.ensures.folded.corners_are.all_faces c.sheet.ensures.folded.corners_are.all_corners
    c.args.self.now.sheet.ends.edges c.args.self.now.sides c.sheet.ensures.folded.sides_are
    c.as_slice-edges.result.now c.as_slice-2.result.now c.as_slice.result.now
    (c.as_slice-edges.ensures ∙ ap (λ (x : Ends g.row.N.Denot). x.edges) c.ends.ensures.ends ∙ ap (λ (p : Pattern g.row.N.Denot). p.ends.edges) c.sheet.ensures.sheet)
    (c.as_slice-2.ensures ∙ ap (λ (l : Layout g.row.N.Denot g.row.N-Ring.Denot). l.sides) c.self.view_is)
    (c.as_slice.ensures ∙ ap (λ (l : Layout g.row.N.Denot g.row.N-Ring.Denot). l.corners) c.self.view_is) e l).1

pub returns-clause-few : goal.returns-clause-few
returns-clause-few g c =
    let same : length c.as_slice-edges.result.now ≡ length c.sheet.result.now.ends.edges = ap (λ (xs : List Edge). length xs) (c.as_slice-edges.ensures ∙ ap (λ (x : Ends g.row.N.Denot). x.edges) c.ends.ensures.ends) in
    let most = c.ends.ensures.sheet.few_edges in
    few-answered c.as_slice.result.now c.as_slice-edges.result.now c.as_slice-2.result.now (omega (arith, same, most)) c.images_of_edges.result c.images_of_edges.ensures

pub returns-clause-within : goal.returns-clause-within
returns-clause-within g c =
    let folded = c.sheet.ensures.folded in
    let sides : c.as_slice-2.result.now ≡ c.args.self.now.sides = c.as_slice-2.ensures ∙ ap (λ (l : Layout g.row.N.Denot g.row.N-Ring.Denot). l.sides) c.self.view_is in
    let corners : c.as_slice.result.now ≡ c.args.self.now.corners = c.as_slice.ensures ∙ ap (λ (l : Layout g.row.N.Denot g.row.N-Ring.Denot). l.corners) c.self.view_is in
    let edges : c.as_slice-edges.result.now ≡ c.args.self.now.sheet.ends.edges
    = c.as_slice-edges.ensures ∙ ap (λ (x : Ends g.row.N.Denot). x.edges) c.ends.ensures.ends ∙ ap (λ (p : Pattern g.row.N.Denot). p.ends.edges) c.sheet.ensures.sheet in
    let long : length c.as_slice-2.result.now ≡ length c.as_slice-edges.result.now
    = ap (λ (xs : List Sides). length xs) sides ∙ c.sheet.ensures.folded.sides_are.long ∙ sym (ap (λ (xs : List Edge). length xs) edges) in
    within-answered c.as_slice.result.now c.as_slice-edges.result.now c.as_slice-2.result.now (length c.args.self.now.images)
    (subst (λ (cs : List Face). (f : ℕ) → f < length cs → AllByRecursion (λ i. i < length c.args.self.now.images) (corners_at cs f)) (sym corners)
    (corners-within c.args.self.now.corners c.args.self.now.sheet.faces (length c.args.self.now.images) c.sheet.ensures.folded.corners_are.all_faces c.sheet.ensures.folded.corners_are.all_corners
    (λ f k l m. (c.sheet.ensures.folded.corners_are.each f k l m).within)))
    (λ e l. fit-sides c.args.self.now.sheet.faces c.args.self.now.corners c.sheet.ensures.folded.corners_are.all_faces c.sheet.ensures.folded.corners_are.all_corners
    c.args.self.now.sheet.ends.edges c.args.self.now.sides c.sheet.ensures.folded.sides_are
    c.as_slice-edges.result.now c.as_slice-2.result.now c.as_slice.result.now edges sides corners e (subst (λ n. e < n) long l))
    c.images_of_edges.result c.images_of_edges.ensures
