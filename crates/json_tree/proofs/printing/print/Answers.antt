use Rattle.std.proofs.Common.{◌≡◌, subst, sym, rules}
use Rattle.json_tree.specs.PrintedForm.{printed_form}
use Rattle.json_tree.specs.Spells.{Spells}
use Rattle.json_tree.proofs.Spelling.{printed_spells}
use Rattle.json_tree.proofs.printing.print.Goals as goal

pub returns-clause-spells : goal.returns-clause-spells
returns-clause-spells c = λ proper.
    let tree = c.args.tree.now in
    let same : c.from_string.result ≡ printed_form tree = search rules in
    subst (λ text. Spells text tree) (sym same) (printed_spells tree c.in_ok-put_value.ensures.texts proper)
