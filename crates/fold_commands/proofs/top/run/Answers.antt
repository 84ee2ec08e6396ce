use Rattle.fold_commands.specs.Words.{texts}
use Rattle.fold_commands.proofs.Headline.{judges_foldable}
use Rattle.fold_commands.proofs.Outcomes.{completes, outcome_of_input}
use Rattle.fold_commands.proofs.Regions.{writes_regions}
use Rattle.fold_commands.proofs.top.run.Goals as goal

pub returns-clause-complete : goal.returns-clause-complete
returns-clause-complete g c = λ calm_source calm_sink bytes input.
    completes c.perform-status.result _ (λ e. calm_source (c.perform-status.ensures.source.failed e)) (λ e. calm_sink (c.perform-status.ensures.sink.failed e))
    (outcome_of_input (texts c.args.words.now) _ _ _ c.perform-status.result bytes c.perform-status.ensures.outcome input).0

pub returns-clause-regions : goal.returns-clause-regions
returns-clause-regions g c =
    writes_regions (texts c.args.words.now) _ _ _ c.perform-status.result c.perform-status.ensures.outcome

pub returns-clause-narrow : goal.returns-clause-narrow
returns-clause-narrow g c =
    c.narrow_drawings_can_be_written.ensures (texts c.args.words.now) _ _ _ c.perform-status.result c.perform-status.ensures.outcome

pub returns-clause-near : goal.returns-clause-near
returns-clause-near g c = c.numbers_are_read_near.ensures

pub returns-clause-headline : goal.returns-clause-headline
returns-clause-headline g c =
    judges_foldable c.yes_is_true.ensures (texts c.args.words.now) (λ bytes. c.one_outcome.ensures.one (texts c.args.words.now) bytes)
    _ _ _ _ _ _ _ c.perform-status.result c.perform-status.ensures.outcome
    (λ calm_source calm_sink bytes input.
    completes c.perform-status.result _ (λ e. calm_source (c.perform-status.ensures.source.failed e)) (λ e. calm_sink (c.perform-status.ensures.sink.failed e))
    (outcome_of_input (texts c.args.words.now) _ _ _ c.perform-status.result bytes c.perform-status.ensures.outcome input).0)
