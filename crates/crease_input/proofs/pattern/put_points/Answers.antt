use Rattle.std.proofs.Common.{subst, sym}
use Rattle.crease_input.proofs.Texted.{all_at}
use Rattle.crease_input.specs.Files.{HasShortParts}
use Rattle.crease_input.proofs.PatternText.{put_none, put_more, put_all}
use Rattle.crease_input.proofs.pattern.put_points.Goals as goal

pub loop-place-init : goal.loop-place-init
loop-place-init g c = put_none g.N.Exact.ROOT g.N.Exact.parts _

pub put_point-requires : goal.put_point-requires
put_point-requires g c =
    subst (HasShortParts g.N.Exact.parts) (sym c.index-coords-place.is)
    (all_at (HasShortParts g.N.Exact.parts) c.args.coords.now c.loop-place.place c.index-coords-place.result
    c.loop-place-test.true c.requires)

pub loop-place-preserved : goal.loop-place-preserved
loop-place-preserved g c =
    put_more g.N.Exact.ROOT g.N.Exact.parts c.args.coords.now c.loop-place.place c.index-coords-place.result _ _ _ _
    c.loop-place-test.true c.index-coords-place.is c.in_ok-put_comma.ensures c.in_ok-put_point.ensures c.loop-place.invariant

pub returns : goal.returns
returns g c =
    let are = put_all g.N.Exact.ROOT g.N.Exact.parts c.args.coords.now c.loop-place.place _ _ c.loop-place-test.false
    c.loop-place.invariant in
    (are.texts, are.nine, are.put)
