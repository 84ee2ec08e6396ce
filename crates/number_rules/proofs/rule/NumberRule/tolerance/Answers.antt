use Rattle.std.proofs.Common.{◌+◌, ◌*◌, ◌∙◌, ap, sym}
use Rattle.std.specs.Int.{div_ceil}
use Rattle.number_rules.specs.Rounded.{steps_of_one}
use Rattle.number_rules.specs.Rows.{tolerance_of}
use Rattle.number_rules.proofs.rule.NumberRule.tolerance.Goals as goal

pub returns-in-Grid : goal.returns-in-Grid
returns-in-Grid g c = ap (λ k. k + 1) c.div_ceil.ensures ∙ ap (λ k. div_ceil steps_of_one (2 * k) + 1) c.from.ensures ∙ ap tolerance_of (sym c.in-Grid.is)
