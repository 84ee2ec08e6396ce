use Rattle.json_tree.proofs.Spelling.{printed_spells}
use Rattle.json_tree.proofs.printing.printed_form_spells.Goals as goal

pub returns : goal.returns
returns c = printed_spells
