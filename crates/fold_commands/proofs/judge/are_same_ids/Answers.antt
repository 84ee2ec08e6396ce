use Rattle.std.proofs.lemmas.Slice.Eq.{slice_eq-Decides}
use Rattle.fold_commands.proofs.SameLists.{ids_decided}
use Rattle.fold_commands.proofs.judge.are_same_ids.Goals as goal

pub returns : goal.returns
returns c = slice_eq-Decides ids_decided c.args.ids.now c.args.others.now c.eq.result c.eq.ensures
