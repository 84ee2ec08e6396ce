use Rattle.std.proofs.Common.{map, take}
use Rattle.arrangement.specs.Covers.{HasCovers}
use Rattle.arrangement.proofs.cutting.cut_all.Given as goal

abbrev pub invariant-loop-segment : goal.invariant-loop-segment
invariant-loop-segment g l = HasCovers g.W.Whole.numbers.ring (map (λ v. v.point) l.vertices) (take l.segment-index l.segments) l.covers
