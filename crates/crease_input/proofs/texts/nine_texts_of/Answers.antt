use Rattle.std.proofs.Common.{rules}
use Rattle.crease_input.proofs.Texted.{all_at, texted_none, texted_more, texted_all}
use Rattle.crease_input.specs.Files.{HasShortParts}
use Rattle.std.proofs.Common.{subst, sym}
use Rattle.crease_input.proofs.texts.nine_texts_of.Goals as goal

pub loop-point-init : goal.loop-point-init
loop-point-init g c =
    rw (c.in_ok-lists.ensures) (texted_none g.N.Exact.ROOT g.N.Exact.parts)

pub point_texts-requires : goal.point_texts-requires
point_texts-requires g c =
    subst (HasShortParts g.N.Exact.parts) (sym c.point-item.is)
    (all_at (HasShortParts g.N.Exact.parts) c.args.coords.now c.loop-point.point-index c.point-item.result
    c.loop-point-test.true c.requires)

pub loop-point-preserved : goal.loop-point-preserved
loop-point-preserved g c =
    texted_more g.N.Exact.ROOT g.N.Exact.parts c.args.coords.now c.loop-point.point-index c.point-item.result _ _
    c.in_ok-texts.texts c.loop-point-test.true c.point-item.is c.in_ok-texts.ensures (search rules)
    c.loop-point.invariant

pub returns : goal.returns
returns g c =
    let are = texted_all g.N.Exact.ROOT g.N.Exact.parts c.args.coords.now c.loop-point.point-index _
    c.loop-point-test.false c.loop-point.invariant in
    (are.texts, are.nine, are.paired)
