use Rattle.std.proofs.Common.{◌≡◌, ◌<◌, List, length, subst, sym}
use Rattle.std.proofs.lemmas.Result.{err_from_is_err_and}
use Rattle.std.specs.Prelude.{Contains}
use Rattle.plane.specs.declared.point.Point.{Point}
use Rattle.scaled_plane.specs.declared.drawing.Edge.{Edge}
use Rattle.scaled_plane.specs.declared.point.Segment.{Segment}
use Rattle.scaled_plane.specs.Pieces.{AreVertices}
use Rattle.scaled_plane.specs.Scaling.{IsTooWide}
use Rattle.drawing_repair.specs.Kept.{AreInRange, kept_segments}
use Rattle.drawing_repair.specs.Repaired.{IsRefusal}
use Rattle.drawing_repair.specs.declared.options.Faces.{Faces}
use Rattle.drawing_repair.proofs.Keeping.{in_range, segments_scaled}
use Rattle.drawing_repair.proofs.Refusals.{after_cutting, after_scaling}
use Rattle.drawing_repair.proofs.cutting.cut_ends.Goals as goal

pub returns-in_err-scaled-clause-refused : goal.returns-in_err-scaled-clause-refused
returns-in_err-scaled-clause-refused g c =
    let p = err_from_is_err_and c.from_residual.result c.from_residual.ensures.1 in
    rw (p.1, p.2)
    (after_scaling _ (IsTooWide g.N.Exact.parts c.args.ends.now.coords)
    (λ e. (faces : Faces) → IsRefusal g.N.Exact.parts g.N.Ring.Whole.numbers c.args.flat c.args.ends.now faces e)
    c.in_err-scaled.ensures.too_wide (λ v h faces. h))

pub segments_kept-requires : goal.segments_kept-requires
segments_kept-requires g c =
    subst (λ (es : List Edge). AreInRange c.as_slice.result.now es) (sym c.as_slice-2.ensures)
    (subst (λ (ps : List (Point g.row.N-Ring.Denot)). AreInRange ps c.args.ends.now.edges) (sym c.as_slice.ensures)
    (in_range g.N.Exact.parts g.N.Ring.Whole.numbers c.args.ends.now.coords c.in_ok-scaled.scaled c.in_ok-scaled.ensures.scaled c.args.ends.now.edges c.requires.in_range))

pub counted_pieces-requires-clause-scaled : goal.counted_pieces-requires-clause-scaled
counted_pieces-requires-clause-scaled g c = λ s there.
    let K = g.N.Ring.Whole.numbers.ring in
    let points : c.in_ok-segments.segments ≡ kept_segments K c.in_ok-scaled.scaled.points c.args.flat c.args.ends.now.edges
    = subst (λ (ps : List (Point g.row.N-Ring.Denot)). c.in_ok-segments.segments ≡ kept_segments K ps c.args.flat c.args.ends.now.edges) c.as_slice.ensures
    (subst (λ (es : List Edge). c.in_ok-segments.segments ≡ kept_segments K c.as_slice.result.now c.args.flat es) c.as_slice-2.ensures c.in_ok-segments.ensures) in
    segments_scaled g.N.Exact.parts g.N.Ring.Whole.numbers c.args.ends.now.coords c.in_ok-scaled.scaled c.in_ok-scaled.ensures.scaled c.args.flat c.args.ends.now.edges c.requires.in_range s
    (subst (λ (ss : List (Segment g.row.N-Ring.Denot)). Contains ss s) points there)

pub returns-in_err-drawing-clause-refused : goal.returns-in_err-drawing-clause-refused
returns-in_err-drawing-clause-refused g c =
    let K = g.N.Ring.Whole.numbers.ring in
    let points : c.in_ok-segments.segments ≡ kept_segments K c.in_ok-scaled.scaled.points c.args.flat c.args.ends.now.edges
    = subst (λ (ps : List (Point g.row.N-Ring.Denot)). c.in_ok-segments.segments ≡ kept_segments K ps c.args.flat c.args.ends.now.edges) c.as_slice.ensures
    (subst (λ (es : List Edge). c.in_ok-segments.segments ≡ kept_segments K c.as_slice.result.now c.args.flat es) c.as_slice-2.ensures c.in_ok-segments.ensures) in
    let p = err_from_is_err_and c.from_residual-in_err-drawing.result c.from_residual-in_err-drawing.ensures.1 in
    rw (p.1, p.2)
    (after_cutting _ ((vertices : List (Point g.row.N-Ring.Denot)) → AreVertices K c.in_ok-segments.segments vertices → 16384 < length vertices)
    (λ e. (faces : Faces) → IsRefusal g.N.Exact.parts g.N.Ring.Whole.numbers c.args.flat c.args.ends.now faces e)
    c.in_err-drawing.ensures.too_many
    (λ many faces. (
      c.in_ok-scaled.scaled,
      c.in_ok-scaled.ensures.scaled,
      λ vertices cut. many vertices (subst (λ (ss : List (Segment g.row.N-Ring.Denot)). AreVertices K ss vertices) (sym points) cut.cuts),
    )))
