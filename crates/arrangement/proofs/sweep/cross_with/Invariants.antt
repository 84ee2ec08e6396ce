use Rattle.std.proofs.Common.{◌≡◌, ◌+◌, ◌≤◌, length, take, map}
use Rattle.std.specs.Prelude.{Contains}
use Rattle.scaled_plane.specs.declared.point.Segment.{Segment}
use Rattle.arrangement.specs.Found.{Grows, HasCrossing, IsCrossedBy}
use Rattle.arrangement.proofs.sweep.cross_with.Given as goal

abbrev pub invariant-loop-next : goal.invariant-loop-next
invariant-loop-next g l = record {
  grows : Grows g.W.Whole.numbers.ring (IsCrossedBy g.W.Whole.numbers.ring l.s (map (λ t. t.segment) l.near)) (map (λ v. v.point) l.initial.found.keys) (map (λ v. v.point) l.found.keys);
  has : (t : Segment g.row.W.Denot) → Contains (take l.next-index (map (λ t. t.segment) l.near)) t → HasCrossing g.W.Whole.numbers.ring (map (λ v. v.point) l.found.keys) l.s t;
  counted : l.steps ≡ l.initial.steps + l.next-index;
  few : length l.found.keys ≤ 16384;
}
