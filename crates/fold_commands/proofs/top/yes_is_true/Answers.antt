use Rattle.fold_commands.proofs.top.yes_is_true.Goals as goal

pub returns : goal.returns
returns c = record {
  rational = c.true_verdicts.ensures;
  over_two = c.true_verdicts-2.ensures;
  over_three = c.true_verdicts-3.ensures;
}
