use Rattle.std.proofs.Common.{◌≤◌, length, take, map}
use Rattle.std.specs.Prelude.{Contains}
use Rattle.scaled_plane.specs.declared.point.Segment.{Segment}
use Rattle.arrangement.specs.Found.{Grows, HasEnds, IsEndIn}
use Rattle.arrangement.proofs.found.add_ends.Given as goal

abbrev pub invariant-loop-span : goal.invariant-loop-span
invariant-loop-span g l = record {
  grows : Grows g.W.Whole.numbers.ring (IsEndIn g.W.Whole.numbers.ring (map (λ s. s.segment) l.spans)) (map (λ v. v.point) l.initial.found.keys) (map (λ v. v.point) l.found.keys);
  has : (s : Segment g.row.W.Denot) → Contains (take l.span-index (map (λ s. s.segment) l.spans)) s → HasEnds g.W.Whole.numbers.ring (map (λ v. v.point) l.found.keys) s;
  few : length l.found.keys ≤ 16384;
}
