use Rattle.std.proofs.Common.{map, subst, sym}
use Rattle.std.specs.Prelude.{Contains}
use Rattle.std.proofs.lemmas.Result.{err_from_is_err_and}
use Rattle.plane.specs.declared.point.Point.{Point}
use Rattle.scaled_plane.specs.declared.point.Segment.{Segment}
use Rattle.scaled_plane.specs.Drawn.{IsDrawn, IsScaledPoint, IsScaledSegment}
use Rattle.scaled_plane.specs.Pieces.{AreVertices, IsEndOfOne}
use Rattle.arrangement.proofs.drawing.pieces.Goals as goal

pub find_vertices-requires : goal.find_vertices-requires
find_vertices-requires g c =
    subst (λ xs. (s : Segment g.row.W.Denot) → Contains xs s → IsScaledSegment g.W.Whole.numbers s) (sym c.as_slice.ensures) c.requires

pub returns-in_err-vertices-clause-too_many : goal.returns-in_err-vertices-clause-too_many
returns-in_err-vertices-clause-too_many g c =
    let p = err_from_is_err_and c.from_residual.result c.from_residual.ensures.1 in
    rw (p.1, p.2) (λ e vertices all. c.in_err-vertices.ensures.too_many e vertices (subst (λ xs. AreVertices g.W.Whole.numbers.ring xs vertices) (sym c.as_slice.ensures) all))

pub drawing_of-requires-clause-scaled : goal.drawing_of-requires-clause-scaled
drawing_of-requires-clause-scaled g c =
    subst (λ xs. (s : Segment g.row.W.Denot) → Contains xs s → IsScaledSegment g.W.Whole.numbers s) (sym c.as_slice-2.ensures) c.requires

pub drawing_of-requires-clause-drawn : goal.drawing_of-requires-clause-drawn
drawing_of-requires-clause-drawn g c =
    subst (λ vs. (p : Point g.row.W.Denot) → Contains (map (λ v. v.point) vs) p → IsDrawn g.W.Whole.numbers p) (sym c.deref.ensures.value) c.in_ok-vertices.ensures.drawn

pub drawing_of-requires-clause-scaled_ends : goal.drawing_of-requires-clause-scaled_ends
drawing_of-requires-clause-scaled_ends g c =
    subst (λ xs. (p : Point g.row.W.Denot) → Contains (map (λ v. v.point) c.deref.result.now) p → IsEndOfOne g.W.Whole.numbers.ring xs p → IsScaledPoint g.W.Whole.numbers p) (sym c.as_slice-2.ensures)
    (subst (λ vs. (p : Point g.row.W.Denot) → Contains (map (λ v. v.point) vs) p → IsEndOfOne g.W.Whole.numbers.ring c.args.segments.now p → IsScaledPoint g.W.Whole.numbers p) (sym c.deref.ensures.value)
    (subst (λ xs. (p : Point g.row.W.Denot) → Contains (map (λ v. v.point) c.in_ok-vertices.vertices.items) p → IsEndOfOne g.W.Whole.numbers.ring xs p → IsScaledPoint g.W.Whole.numbers p) c.as_slice.ensures c.in_ok-vertices.ensures.scaled_ends))

pub returns-clause-scaled_ends : goal.returns-clause-scaled_ends
returns-clause-scaled_ends g c =
    subst (λ ps. (p : Point g.row.W.Denot) → Contains ps p → IsEndOfOne g.W.Whole.numbers.ring c.args.segments.now p → IsScaledPoint g.W.Whole.numbers p) (sym c.in_ok-drawing.ensures.same)
    (subst (λ vs. (p : Point g.row.W.Denot) → Contains (map (λ v. v.point) vs) p → IsEndOfOne g.W.Whole.numbers.ring c.args.segments.now p → IsScaledPoint g.W.Whole.numbers p) (sym c.deref.ensures.value)
    (subst (λ xs. (p : Point g.row.W.Denot) → Contains (map (λ v. v.point) c.in_ok-vertices.vertices.items) p → IsEndOfOne g.W.Whole.numbers.ring xs p → IsScaledPoint g.W.Whole.numbers p) c.as_slice.ensures c.in_ok-vertices.ensures.scaled_ends))
