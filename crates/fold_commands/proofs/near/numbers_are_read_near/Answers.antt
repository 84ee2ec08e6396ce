use Rattle.fold_commands.proofs.near.numbers_are_read_near.Goals as goal

pub returns : goal.returns
returns c = record {
  rational = c.read_near.ensures;
  over_two = c.read_near-2.ensures;
  over_three = c.read_near-3.ensures;
}
