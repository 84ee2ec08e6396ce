use Rattle.std.proofs.Common.{◌∙◌, rules, sym}
use Rattle.std.proofs.lemmas.Result.{err_from_is_err_and}
use Rattle.fold_commands.specs.Words.{texts}
use Rattle.fold_commands.proofs.Decide.{in_range, no_command, take_nothing}
use Rattle.fold_commands.proofs.Ending.{of_input, of_strip, refused, status_unread, takes_input, takes_none, untaken}
use Rattle.fold_commands.proofs.top.prepare.Goals as goal

pub returns-in_err-command-clause-outcome : goal.returns-in_err-command-clause-outcome
returns-in_err-command-clause-outcome g c =
    let p = err_from_is_err_and c.from_residual.result c.from_residual.ensures.1 in
    rw (p.1, p.2) (refused (texts c.args.words.now) (g.S.Source.left c.args.source.now) _ c.in_err-command.ensures.err)

pub returns-in_err-command-clause-source : goal.returns-in_err-command-clause-source
returns-in_err-command-clause-source g c =
    let p = err_from_is_err_and c.from_residual.result c.from_residual.ensures.1 in
    rw (p.1, p.2) (untaken g.S.Source.left g.S.Source.faults (texts c.args.words.now) c.args.source.now _ c.in_err-command.ensures.err)

pub answer_on_strip-requires-clause-some : goal.answer_on_strip-requires-clause-some
answer_on_strip-requires-clause-some g c =
    (in_range (texts c.args.words.now) c.in_ok-command.command c.in-Some.count (sym c.strip.ensures ∙ c.in-Some.is) c.in_ok-command.ensures.ok).0

pub answer_on_strip-requires-clause-few : goal.answer_on_strip-requires-clause-few
answer_on_strip-requires-clause-few g c =
    (in_range (texts c.args.words.now) c.in_ok-command.command c.in-Some.count (sym c.strip.ensures ∙ c.in-Some.is) c.in_ok-command.ensures.ok).1

pub returns-in-None-clause-outcome : goal.returns-in-None-clause-outcome
returns-in-None-clause-outcome g c =
    of_input (texts c.args.words.now) (g.S.Source.left c.args.source.now) c.in_ok-command.command c.in_ok-command.ensures.ok
    (sym c.strip.ensures ∙ c.in-None.is) c.answer.result c.answer.ensures.outcome

pub returns-in-None-clause-source : goal.returns-in-None-clause-source
returns-in-None-clause-source g c =
    takes_input g.S.Source.left g.S.Source.faults (texts c.args.words.now) c.args.source.now c.answer.new.source _
    c.answer.ensures.taken c.answer.ensures.end
    (λ nothing. no_command (texts c.args.words.now) c.in_ok-command.command (sym c.strip.ensures ∙ c.in-None.is) nothing c.in_ok-command.ensures.ok)
    (search rules)

pub returns-in-Some-clause-outcome : goal.returns-in-Some-clause-outcome
returns-in-Some-clause-outcome g c =
    of_strip (texts c.args.words.now) (g.S.Source.left c.args.source.now) c.in_ok-command.command c.in_ok-command.ensures.ok c.in-Some.count
    (sym c.strip.ensures ∙ c.in-Some.is) c.answer_on_strip.result c.answer_on_strip.ensures.outcome

pub returns-in-Some-clause-source : goal.returns-in-Some-clause-source
returns-in-Some-clause-source g c =
    takes_none g.S.Source.left g.S.Source.faults (texts c.args.words.now) c.args.source.now _
    (take_nothing (texts c.args.words.now) c.in_ok-command.command c.in-Some.count (sym c.strip.ensures ∙ c.in-Some.is) c.in_ok-command.ensures.ok)
    (status_unread c.answer_on_strip.result c.answer_on_strip.ensures.unread)
