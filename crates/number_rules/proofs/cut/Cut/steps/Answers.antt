use Rattle.std.proofs.Common.{rules, ◌∙◌, ◌*◌, ap, add-zero}
use Rattle.std.specs.Prelude.{min}
use Rattle.number_rules.specs.Cut.{cap}
use Rattle.number_rules.proofs.Cuts.{zero_more, no_zeros}
use Rattle.number_rules.proofs.cut.Cut.steps.Goals as goal

pub loop-init : goal.loop-init
loop-init c = (c.requires, no_zeros c.args.self.now.whole c.requires)

pub loop-preserved : goal.loop-preserved
loop-preserved c = (
  search rules,
  c.with_capped_digit-whole.ensures ∙ ap (λ m. min m cap) (add-zero (10 * c.loop.whole)) ∙ zero_more c.args.self.now.whole c.loop.whole c.loop.counter c.loop.invariant.1,
)
