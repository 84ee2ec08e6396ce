use Rattle.number_rules.proofs.Tolerance.{all_within}
use Rattle.number_rules.proofs.rule.NumberRule.apply.Goals as goal

pub returns-clause-within : goal.returns-clause-within
returns-clause-within g c =
    all_within g.N.Exact.ROOT g.N.Exact.parts g.met.N.Exact.radicand g.met.N.Exact.holds c.args.self.now.row c.args.text.now c.read_decimal-value.result c.call.result c.args.self.now.above_zero c.read_decimal-value.ensures.value
    (c.requires.keeps.answers c.read_decimal-value.result c.call.result c.read_decimal-value.ensures.readable c.call.ensures)
