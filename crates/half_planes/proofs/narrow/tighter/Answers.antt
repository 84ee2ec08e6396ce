use Rattle.std.proofs.Common.{◌∙◌, sym}
use Rattle.half_planes.proofs.Choices.{same_by_index, other_by_index, both_by_new, both_by_old}
use Rattle.half_planes.proofs.narrow.tighter.Goals as goal

pub returns-then-eq-clause-both : goal.returns-then-eq-clause-both
returns-then-eq-clause-both g c =
    both_by_new g.W.Whole.numbers.ring c.args.old c.in-Some.old c.args.new c.in-Some.is c.requires.sloped c.requires.one_side
    (sym c.gap_sign.ensures ∙ same_by_index c.gap_sign.result c.sign.result (sym c.eq.ensures ∙ c.if-eq.true) ∙ c.sign.ensures)

pub returns-else-eq-clause-both : goal.returns-else-eq-clause-both
returns-else-eq-clause-both g c =
    both_by_old g.W.Whole.numbers.ring c.args.old c.in-Some.old c.args.new c.in-Some.is c.requires.sloped c.requires.one_side
    (λ same. other_by_index c.gap_sign.result c.sign.result (sym c.eq.ensures ∙ c.if-eq.false) (c.gap_sign.ensures ∙ same ∙ sym c.sign.ensures))
