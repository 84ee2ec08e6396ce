use Rattle.std.proofs.Common.{◌∙◌, sym}
use Rattle.fold_commands.proofs.Decide.{counted, uncounted}
use Rattle.fold_commands.proofs.words.count_in.Goals as goal

pub returns-in-Some : goal.returns-in-Some
returns-in-Some c = counted c.args.text.now c.in-Some.number c.as_count.result (sym c.in-Some.is ∙ c.in_ok-number.ensures) c.as_count.ensures

pub returns-in-None : goal.returns-in-None
returns-in-None c = uncounted c.args.text.now (sym c.in-None.is ∙ c.in_ok-number.ensures)
