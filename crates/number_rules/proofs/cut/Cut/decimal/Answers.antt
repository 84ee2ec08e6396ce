use Rattle.std.proofs.Common.{◌∙◌, ap, false}
use Rattle.number_rules.specs.Value.{with_sign}
use Rattle.number_rules.proofs.Steps.{decided}
use Rattle.number_rules.proofs.cut.Cut.decimal.Goals as goal

pub returns : goal.returns
returns c = λ n count before shows f some. decided n count before c.args.self.now c.args.negative c.steps.result c.rounded-size.result c.of_size.result shows c.steps.ensures c.rounded-size.ensures
    (c.of_size.ensures.far, (λ h. c.of_size.ensures.near h ∙ ap (λ e. record { far = false; near = with_sign c.args.negative c.rounded-size.result; exact = e }) c.is_exact.ensures)) f some
