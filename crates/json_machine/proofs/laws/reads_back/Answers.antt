use Rattle.json_tree.specs.PrintedForm.{printed_form}
use Rattle.json_tree.proofs.Spelling.{printed_spells}
use Rattle.json_machine.proofs.Runs.{answers}
use Rattle.json_machine.proofs.laws.reads_back.Goals as goal

pub returns : goal.returns
returns c = λ tree texts proper. answers (printed_form tree) tree (printed_spells tree texts proper)
