use Rattle.std.proofs.Common.{◌≡◌, ◌+◌, ◌<◌, ◌≤◌, ℕ, map, drop, length, slice_index_or}
use Rattle.scaled_plane.specs.declared.point.Segment.{Segment}
use Rattle.scaled_plane.specs.Counts.{pairs_sharing_x}
use Rattle.arrangement.specs.Found.{Grows, HasCrossing, IsCrossedIn}
use Rattle.arrangement.proofs.sweep.cross_all.Given as goal

abbrev pub invariant-loop-place : goal.invariant-loop-place
invariant-loop-place g l = record {
  grows : Grows g.W.Whole.numbers.ring (IsCrossedIn g.W.Whole.numbers.ring (map (λ s. s.segment) l.spans)) (map (λ v. v.point) l.initial.found.keys) (map (λ v. v.point) l.found.keys);
  has : (i j : ℕ) (d : Segment g.row.W.Denot) → i < l.place → i < j → j < length (map (λ s. s.segment) l.spans)
      → HasCrossing g.W.Whole.numbers.ring (map (λ v. v.point) l.found.keys) (slice_index_or (map (λ s. s.segment) l.spans) i d) (slice_index_or (map (λ s. s.segment) l.spans) j d);
  begun : l.initial.steps ≤ l.steps;
  counted : l.steps + pairs_sharing_x g.W.Whole.numbers.ring (drop l.place (map (λ s. s.segment) l.spans)) ≡ l.initial.steps + pairs_sharing_x g.W.Whole.numbers.ring (map (λ s. s.segment) l.spans);
  few : length l.found.keys ≤ 16384;
}
