use Rattle.std.proofs.Common.{◌∙◌, ap, sym, ◌*ℤ◌}
use Rattle.std.specs.Int.{w128}
use Rattle.std.proofs.lemmas.Int.{quot_is, quot_fits}
use Rattle.exact_number.proofs.ExactParts.{exact}
use Rattle.exact_number.proofs.reduction.exact_part.Goals as goal

pub returns : goal.returns
returns c =
    exact c.args.a c.args.factor c.requires.positive c.requires.divides
    ∙ ap (λ t. t *ℤ c.args.factor) (sym (quot_is w128 c.args.a c.args.factor c.ranges.a c.ranges.factor (quot_fits w128 c.args.a c.args.factor c.ranges.a c.requires.positive)))
