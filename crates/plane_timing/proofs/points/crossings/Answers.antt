use Rattle.std.proofs.Common.{All, ◌≡◌, ◌∙◌, sym, subst}
use Rattle.scaled_plane.specs.Drawn.{IsDrawn}
use Rattle.plane_timing.proofs.Kept.{with_last}
use Rattle.plane_timing.proofs.points.crossings.Goals.{in-Some+in_ok-push, in_default}
use Rattle.plane_timing.proofs.points.crossings.Goals as goal

pub loop-second-preserved : goal.loop-second-preserved
loop-second-preserved g c = elim c.match-crossing.branch [
  | in-Some+in_ok-push w ↦
      with_last (λ p. IsDrawn g.W.Whole.numbers p)
      c.loop-second.points c.match-crossing.points w.in-Some.point c.loop-second.invariant w.in-Some.ensures (w.points-is ∙ w.in_ok-push.ensures.ok)
  | in_default w ↦ subst (All (λ p. IsDrawn g.W.Whole.numbers p)) (sym w.points-is) c.loop-second.invariant
]
