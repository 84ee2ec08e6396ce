use Rattle.std.proofs.Common.{◌≡◌, ℕ, take}
use Rattle.std.specs.List.{Contains}
use Rattle.std.specs.declared.cmp.Ordering.TheVariants.{Less}
use Rattle.plane.specs.Lines.{side}
use Rattle.scaled_plane.specs.Pieces.{point_at}
use Rattle.sheet_check.proofs.convex.has_right.Given as goal

abbrev pub invariant-loop-corner : goal.invariant-loop-corner
invariant-loop-corner g l =
    let K = g.W.Whole.numbers.ring in
    (z : ℕ) → Contains (take l.corner-index l.corners) z → ¬ (side K (point_at K l.vertices l.b) (point_at K l.vertices l.c) (point_at K l.vertices z) ≡ Less)
