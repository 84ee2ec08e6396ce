use Rattle.std.proofs.Common.{List, map}
use Rattle.scaled_plane.specs.declared.point.Segment.{Segment}
use Rattle.arrangement.specs.Covers.{HasCovers, HasCoversBefore, IsLastOn}
use Rattle.arrangement.proofs.cutting.cut_segment.Given as goal

abbrev pub invariant-loop-place : goal.invariant-loop-place
invariant-loop-place g l = record {
  last : IsLastOn g.W.Whole.numbers.ring (map (λ v. v.point) l.vertices) l.fn.s l.place l.last;
  covers : (segments : List (Segment g.row.W.Denot)) → HasCovers g.W.Whole.numbers.ring (map (λ v. v.point) l.vertices) segments l.initial.covers
      → HasCoversBefore g.W.Whole.numbers.ring (map (λ v. v.point) l.vertices) segments l.fn.s l.place l.covers;
}
