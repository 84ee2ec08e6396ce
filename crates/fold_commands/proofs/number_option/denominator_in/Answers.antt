use Rattle.std.proofs.Common.{◌∙◌, sym}
use Rattle.fold_commands.proofs.NumberOption.{new_denominator, no_denominator}
use Rattle.fold_commands.proofs.number_option.denominator_in.Goals as goal

pub returns-in-Some : goal.returns-in-Some
returns-in-Some c = new_denominator c.args.text.now c.in-Some.number c.new.result (sym c.in-Some.is ∙ c.in_ok-number.ensures) c.new.ensures

pub returns-in-None : goal.returns-in-None
returns-in-None c = no_denominator c.args.text.now (sym c.in-None.is ∙ c.in_ok-number.ensures)
