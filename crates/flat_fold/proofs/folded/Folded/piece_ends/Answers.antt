use Rattle.std.proofs.Common.{◌≡◌, ◌∙◌, ap, sym, subst, ℕ, Some, List, [], ◌<◌, ◌≤◌, length, arith}
use Rattle.std.specs.Prelude.{slice_get, slice_index_or}
use Rattle.std.proofs.lemmas.List.{get_or_default}
use Rattle.scaled_plane.specs.declared.drawing.Face.{Face}
use Rattle.scaled_plane.specs.Scaling.{IsScaledWith}
use Rattle.scaled_plane.specs.Walks.{pieces_round}
use Rattle.flat_fold.specs.Faces.{corners_at}
use Rattle.flat_fold.specs.Folded.{Layout}
use Rattle.flat_fold.specs.Images.{place_by}
use Rattle.flat_fold.specs.Sheets.{FormSheet, Pattern}
use Rattle.flat_fold.proofs.SheetLaws.{few-corners}
use Rattle.flat_fold.proofs.SideLaws.{begins-first}
use Rattle.flat_fold.proofs.folded.Folded.piece_ends.Goals as goal

pub corner_after-next-requires-clause-few : goal.corner_after-next-requires-clause-few
corner_after-next-requires-clause-few g c =
    let faces : c.as_slice.result.now ≡ c.args.self.now.sheet.faces = c.as_slice.ensures ∙ c.faces.ensures.faces ∙ ap (λ (l : Layout g.row.N.Denot g.row.N-Ring.Denot). l.sheet.faces) c.self.view_is in
    let same : c.as_slice-corners.result.now ≡ corners_at c.args.self.now.sheet.faces c.args.side.face
    = c.as_slice-corners.ensures ∙ ap (λ (l : List Face). (slice_index_or l c.args.side.face c.index-as_slice-side.result).corners) faces
    ∙ ap (λ (w : Face). w.corners) (get_or_default c.args.self.now.sheet.faces c.args.side.face c.index-as_slice-side.result (record { corners = [] }) c.requires.face) in
    let sheet : c.self.inside.sheet ≡ c.args.self.now.sheet = ap (λ (l : Layout g.row.N.Denot g.row.N-Ring.Denot). l.sheet) c.self.view_is in
    let form = subst (λ (s : Pattern g.row.N.Denot). FormSheet g.N.Exact.parts g.N.Ring.Whole.numbers s.ends s.faces) sheet c.faces.ensures.sheet in
    let few = few-corners c.args.self.now.sheet.ends c.args.self.now.sheet.faces form c.args.side.face c.requires.face in
    let long = ap (λ (l : List ℕ). length l) same in
    omega (arith, few, long)

pub returns-clause-ends : goal.returns-clause-ends
returns-clause-ends g c u v begins =
    let faces : c.as_slice.result.now ≡ c.args.self.now.sheet.faces = c.as_slice.ensures ∙ c.faces.ensures.faces ∙ ap (λ (l : Layout g.row.N.Denot g.row.N-Ring.Denot). l.sheet.faces) c.self.view_is in
    let same : c.as_slice-corners.result.now ≡ corners_at c.args.self.now.sheet.faces c.args.side.face
    = c.as_slice-corners.ensures ∙ ap (λ (l : List Face). (slice_index_or l c.args.side.face c.index-as_slice-side.result).corners) faces
    ∙ ap (λ (w : Face). w.corners) (get_or_default c.args.self.now.sheet.faces c.args.side.face c.index-as_slice-side.result (record { corners = [] }) c.requires.face) in
    let first = begins-first c.args.self.now.sheet.faces c.args.side.face c.args.side.corner u v 0 begins in
    let second : slice_index_or (corners_at c.args.self.now.sheet.faces c.args.side.face) c.corner_after-next.result 0 ≡ v
    = ap (λ (l : List ℕ). slice_index_or l c.corner_after-next.result 0) (sym same)
    ∙ c.corner_after-next.ensures.next u v (ap (λ (l : List ℕ). slice_get (pieces_round l) c.args.side.corner) same ∙ begins.piece) in (
      subst (λ (w : ℕ). IsScaledWith g.N.Exact.parts g.N.Ring.Whole.numbers c.args.self.now.scaled.common (place_by g.N.Exact.numbers.field c.args.self.now.sheet.ends.coords c.args.self.now.sheet.faces c.args.self.now.maps c.args.side.face w) c.point.result) first c.point.ensures,
      subst (λ (w : ℕ). IsScaledWith g.N.Exact.parts g.N.Ring.Whole.numbers c.args.self.now.scaled.common (place_by g.N.Exact.numbers.field c.args.self.now.sheet.ends.coords c.args.self.now.sheet.faces c.args.self.now.maps c.args.side.face w) c.point-2.result) second c.point-2.ensures,
    )
