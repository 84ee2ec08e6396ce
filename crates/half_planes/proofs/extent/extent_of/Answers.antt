use Rattle.std.proofs.Common.{sym, subst}
use Rattle.std.proofs.lemmas.Option.{get_or_from_slice_get}
use Rattle.std.proofs.lemmas.List.Elements.{AllWithin-more}
use Rattle.half_planes.specs.Extents.{Holds}
use Rattle.half_planes.proofs.extent.extent_of.Goals as goal

pub loop-place-preserved : goal.loop-place-preserved
loop-place-preserved g c =
    let K = g.F.Ring.Whole.numbers.ring in
    let corners = (g.F.FaceView.face c.args.face.now).corners in
    let wider = c.widened-extent in
    record {
      small = wider.ensures.size;
      held = AllWithin-more (λ v. Holds K wider.result v) corners 0 c.loop-place.place (λ k d low high. wider.ensures.kept _ (c.loop-place.invariant.held k d low high))
          (λ d. subst (λ v. Holds K wider.result v) (sym (get_or_from_slice_get corners c.loop-place.place c.corner-in-loop-place.result d c.corner-in-loop-place.ensures)) wider.ensures.holds);
    }
