use Rattle.std.proofs.Common.{◌≡◌, ◌∙◌, List, ℕ, ap, arith, subst}
use Rattle.fold_commands.specs.Outcome.{AreLeft, DoesWith}
use Rattle.fold_commands.specs.Steps.{Ends}
use Rattle.fold_commands.proofs.Ending.{of_text, unread}
use Rattle.fold_commands.proofs.top.answer_on_strip.Goals as goal

pub returns-clause-outcome : goal.returns-clause-outcome
returns-clause-outcome c =
    let read = c.answer.ensures.outcome in
    of_text c.args.count c.args.command.now c.in_ok-text.text c.in_ok-text.ensures c.answer.result
    (read.0, read.1 ∙ c.new.ensures.bytes ∙ c.in_ok-bytes.ensures ∙ c.bytes.ensures.same, read.2)

pub returns-clause-unread : goal.returns-clause-unread
returns-clause-unread c = unread c.answer.result (λ e. let rose = c.answer.ensures.read e in omega (arith, rose))
