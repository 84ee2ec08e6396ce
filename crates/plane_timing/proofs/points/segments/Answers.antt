use Rattle.std.proofs.Common.{All, ◌≡◌, ◌∙◌, sym, subst}
use Rattle.scaled_plane.specs.Drawn.{IsScaledSegment}
use Rattle.scaled_plane.specs.Pieces.{IsProper}
use Rattle.plane_timing.proofs.Kept.{with_last}
use Rattle.plane_timing.proofs.points.segments.Goals.{in-Some+in_ok-push, in_default}
use Rattle.plane_timing.proofs.points.segments.Goals as goal

pub loop-preserved : goal.loop-preserved
loop-preserved g c = elim c.match-segment.branch [
  | in-Some+in_ok-push w ↦
      with_last (λ s. IsScaledSegment g.W.Whole.numbers s × IsProper g.W.Whole.numbers.ring s)
      c.loop.segments c.match-segment.segments w.in-Some.segment c.loop.invariant w.in-Some.ensures (w.segments-is ∙ w.in_ok-push.ensures.ok)
  | in_default w ↦ subst (All (λ s. IsScaledSegment g.W.Whole.numbers s × IsProper g.W.Whole.numbers.ring s)) (sym w.segments-is) c.loop.invariant
]
