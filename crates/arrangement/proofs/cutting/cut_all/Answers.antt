use Rattle.std.proofs.Common.{◌∙◌, ◌++◌, ◌∷◌, [], ap, arith, map, subst, sym, take}
use Rattle.std.proofs.lemmas.List.{take_all, take_more}
use Rattle.arrangement.specs.Covers.{HasCovers}
use Rattle.arrangement.proofs.Looping.{read_in}
use Rattle.arrangement.proofs.cutting.cut_all.Goals as goal

pub cut_proper-requires-clause-scaled : goal.cut_proper-requires-clause-scaled
cut_proper-requires-clause-scaled g c =
    c.requires.scaled c.segment-item.result (read_in c.args.segments.now c.loop-segment.segment-index c.segment-item.result c.loop-segment-test.true c.segment-item.is)

pub cut_proper-requires-clause-has : goal.cut_proper-requires-clause-has
cut_proper-requires-clause-has g c =
    c.requires.has c.segment-item.result (read_in c.args.segments.now c.loop-segment.segment-index c.segment-item.result c.loop-segment-test.true c.segment-item.is)

pub loop-segment-preserved : goal.loop-segment-preserved
loop-segment-preserved g c =
    let i = c.loop-segment.segment-index in
    let x = c.segment-item.result in
    subst (λ xs. HasCovers g.W.Whole.numbers.ring (map (λ v. v.point) c.args.vertices.now) xs c.cut_proper.new.covers)
    (sym (take_more c.args.segments.now i x c.loop-segment-test.true ∙ ap (λ z. take i c.args.segments.now ++ z ∷ []) (sym c.segment-item.is)))
    (c.in_ok-cut_proper.ensures (take i c.args.segments.now) c.loop-segment.invariant)

pub returns : goal.returns
returns g c =
    subst (λ xs. HasCovers g.W.Whole.numbers.ring (map (λ v. v.point) c.args.vertices.now) xs c.loop-segment.covers)
    (take_all c.loop-segment.segment-index c.args.segments.now (let done = c.loop-segment-test.false in omega (arith, done))) c.loop-segment.invariant
