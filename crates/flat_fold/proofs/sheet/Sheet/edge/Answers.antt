use Rattle.std.proofs.Common.{◌≡◌, ◌∙◌, ap, sym, subst, ℕ, List, ◌<◌, length, arith}
use Rattle.scaled_plane.specs.declared.drawing.Edge.{Edge}
use Rattle.scaled_plane.specs.declared.drawing.Ends.{Ends}
use Rattle.scaled_plane.specs.declared.point.Pair.{Pair}
use Rattle.flat_fold.specs.Faces.{edge_at}
use Rattle.flat_fold.proofs.EdgeReads.{read_point}
use Rattle.flat_fold.proofs.SheetLaws.{ends-in_range}
use Rattle.flat_fold.proofs.sheet.Sheet.edge.Goals as goal

-- the ends of an edge that was read are vertices that were read
ends_read : {A : Type 0} (edges es : List Edge) (coords cs : List (Pair A)) (e : ℕ) → es ≡ edges → cs ≡ coords
    → ((edge_at edges e).from < length coords) × ((edge_at edges e).to < length coords) → ((edge_at es e).from < length cs) × ((edge_at es e).to < length cs)
ends_read {A} edges es coords cs e f g h =
    subst (λ (s : List Edge). ((edge_at s e).from < length cs) × ((edge_at s e).to < length cs)) (sym f)
    (subst (λ (s : List (Pair A)). ((edge_at edges e).from < length s) × ((edge_at edges e).to < length s)) (sym g) h)

pub offset_bounds-coords-edge : goal.offset_bounds-coords-edge
offset_bounds-coords-edge g c =
    let now = c.args.self.now in
    let edges_are : c.as_slice.result.now ≡ now.ends.edges = c.as_slice.ensures ∙ ap (λ (x : Ends g.row.N.Denot). x.edges) c.ends-ends.ensures.ends in
    let coords_are : c.as_slice-coords.result.now ≡ now.ends.coords = c.as_slice-coords.ensures ∙ ap (λ (x : Ends g.row.N.Denot). x.coords) c.ends-ends.ensures.ends in
    let within = ends-in_range now.ends now.faces c.ends-ends.ensures.sheet c.args.e c.requires in
    let less = (ends_read _ _ _ _ c.args.e edges_are coords_are within).0 in
    omega (arith, less)

pub bounds-coords-edge : goal.bounds-coords-edge
bounds-coords-edge g c =
    let now = c.args.self.now in
    let edges_are : c.as_slice.result.now ≡ now.ends.edges = c.as_slice.ensures ∙ ap (λ (x : Ends g.row.N.Denot). x.edges) c.ends-ends.ensures.ends in
    let coords_are : c.as_slice-coords.result.now ≡ now.ends.coords = c.as_slice-coords.ensures ∙ ap (λ (x : Ends g.row.N.Denot). x.coords) c.ends-ends.ensures.ends in
    let within = ends-in_range now.ends now.faces c.ends-ends.ensures.sheet c.args.e c.requires in
    (ends_read _ _ _ _ c.args.e edges_are coords_are within).0

pub offset_bounds-coords-edge-2 : goal.offset_bounds-coords-edge-2
offset_bounds-coords-edge-2 g c =
    let now = c.args.self.now in
    let edges_are : c.as_slice.result.now ≡ now.ends.edges = c.as_slice.ensures ∙ ap (λ (x : Ends g.row.N.Denot). x.edges) c.ends-ends.ensures.ends in
    let coords_are : c.as_slice-coords.result.now ≡ now.ends.coords = c.as_slice-coords.ensures ∙ ap (λ (x : Ends g.row.N.Denot). x.coords) c.ends-ends.ensures.ends in
    let within = ends-in_range now.ends now.faces c.ends-ends.ensures.sheet c.args.e c.requires in
    let less = (ends_read _ _ _ _ c.args.e edges_are coords_are within).1 in
    omega (arith, less)

pub bounds-coords-edge-2 : goal.bounds-coords-edge-2
bounds-coords-edge-2 g c =
    let now = c.args.self.now in
    let edges_are : c.as_slice.result.now ≡ now.ends.edges = c.as_slice.ensures ∙ ap (λ (x : Ends g.row.N.Denot). x.edges) c.ends-ends.ensures.ends in
    let coords_are : c.as_slice-coords.result.now ≡ now.ends.coords = c.as_slice-coords.ensures ∙ ap (λ (x : Ends g.row.N.Denot). x.coords) c.ends-ends.ensures.ends in
    let within = ends-in_range now.ends now.faces c.ends-ends.ensures.sheet c.args.e c.requires in
    (ends_read _ _ _ _ c.args.e edges_are coords_are within).1

pub returns-clause-from : goal.returns-clause-from
returns-clause-from g c =
    let now = c.args.self.now in
    let edges_are : c.as_slice.result.now ≡ now.ends.edges = c.as_slice.ensures ∙ ap (λ (x : Ends g.row.N.Denot). x.edges) c.ends-ends.ensures.ends in
    let coords_are : c.as_slice-coords.result.now ≡ now.ends.coords = c.as_slice-coords.ensures ∙ ap (λ (x : Ends g.row.N.Denot). x.coords) c.ends-ends.ensures.ends in
    let within = ends-in_range now.ends now.faces c.ends-ends.ensures.sheet c.args.e c.requires in
    read_point g.N.Exact.numbers.field now.ends.coords c.as_slice-coords.result.now _ (edge_at now.ends.edges c.args.e).from c.index-coords-edge.result c.index-coords-edge.is coords_are
    (ap (λ (s : List Edge). (edge_at s c.args.e).from) edges_are) within.0

pub returns-clause-to : goal.returns-clause-to
returns-clause-to g c =
    let now = c.args.self.now in
    let edges_are : c.as_slice.result.now ≡ now.ends.edges = c.as_slice.ensures ∙ ap (λ (x : Ends g.row.N.Denot). x.edges) c.ends-ends.ensures.ends in
    let coords_are : c.as_slice-coords.result.now ≡ now.ends.coords = c.as_slice-coords.ensures ∙ ap (λ (x : Ends g.row.N.Denot). x.coords) c.ends-ends.ensures.ends in
    let within = ends-in_range now.ends now.faces c.ends-ends.ensures.sheet c.args.e c.requires in
    read_point g.N.Exact.numbers.field now.ends.coords c.as_slice-coords.result.now _ (edge_at now.ends.edges c.args.e).to c.index-coords-edge-2.result c.index-coords-edge-2.is coords_are
    (ap (λ (s : List Edge). (edge_at s c.args.e).to) edges_are) within.1
