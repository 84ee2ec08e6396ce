use Rattle.std.proofs.Common.{◌≡◌, List, ℕ, [], rules, subst}
use Rattle.fold_commands.specs.Crossings.{no_line}
use Rattle.fold_commands.specs.Outside.{PutsText, TakesFrom}
use Rattle.fold_commands.specs.Steps.{due_with}
use Rattle.fold_commands.specs.Words.{texts}
use Rattle.fold_commands.specs.declared.status.Status.{Status}
use Rattle.fold_commands.specs.declared.status.Status.TheVariants.{Done, No}
use Rattle.fold_commands.proofs.Ending.{answered, put_due, puts_due, stopped, takes_due, takes_memory}
use Rattle.fold_commands.proofs.top.perform.Goals as goal

pub returns-in-Ok-clause-outcome : goal.returns-in-Ok-clause-outcome
returns-in-Ok-clause-outcome g c =
    let text : c.bytes.result.now ≡ c.in-Ok.text = search rules in
    let puts = subst (λ (t : List ℕ). PutsText g.T.Sink.written g.T.Sink.faults c.args.sink.now c.put.new.sink Done t c.put.result) text c.put.ensures in
    put_due g.T.Sink.written g.T.Sink.faults c.args.sink.now c.put.new.sink Done tt c.in-Ok.text c.put.result puts
    (texts c.args.words.now) (g.S.Source.left c.args.source.now) c.in-Ok.ensures.outcome

pub returns-in-Ok-clause-source : goal.returns-in-Ok-clause-source
returns-in-Ok-clause-source g c =
    takes_due g.S.Source.left g.S.Source.faults (texts c.args.words.now) c.args.source.now c.prepare.new.source
    g.T.Sink.written g.T.Sink.faults c.args.sink.now c.put.new.sink Done tt c.bytes.result.now c.put.result c.put.ensures c.in-Ok.ensures.source

pub returns-in-Ok-clause-sink : goal.returns-in-Ok-clause-sink
returns-in-Ok-clause-sink g c =
    puts_due g.T.Sink.written g.T.Sink.faults c.args.sink.now c.put.new.sink Done tt c.bytes.result.now c.put.result c.put.ensures

pub returns-in-Ok-no_line-clause-outcome : goal.returns-in-Ok-no_line-clause-outcome
returns-in-Ok-no_line-clause-outcome g c =
    let cause = c.in-Err-No.cause in
    let words = texts c.args.words.now in
    let left = g.S.Source.left c.args.source.now in
    let text : c.as_bytes.result.now ≡ no_line cause = search rules in
    let puts = subst (λ (t : List ℕ). PutsText g.T.Sink.written g.T.Sink.faults c.args.sink.now c.put-in-Ok-no_line.new.sink (No cause) t c.put-in-Ok-no_line.result) text c.put-in-Ok-no_line.ensures in
    put_due g.T.Sink.written g.T.Sink.faults c.args.sink.now c.put-in-Ok-no_line.new.sink (No cause) tt (no_line cause) c.put-in-Ok-no_line.result puts
    words left (answered words left c.in-Err-No.field-0 cause c.in-Err-No.field-0-is c.in-Err-No.ensures.outcome)

pub returns-in-Ok-no_line-clause-source : goal.returns-in-Ok-no_line-clause-source
returns-in-Ok-no_line-clause-source g c =
    let cause = c.in-Err-No.cause in
    let words = texts c.args.words.now in
    takes_due g.S.Source.left g.S.Source.faults words c.args.source.now c.prepare.new.source
    g.T.Sink.written g.T.Sink.faults c.args.sink.now c.put-in-Ok-no_line.new.sink (No cause) tt c.as_bytes.result.now c.put-in-Ok-no_line.result c.put-in-Ok-no_line.ensures
    (subst (λ (s : Status). TakesFrom g.S.Source.left g.S.Source.faults words c.args.source.now c.prepare.new.source s) c.in-Err-No.field-0-is c.in-Err-No.ensures.source)

pub returns-in-Ok-no_line-clause-sink : goal.returns-in-Ok-no_line-clause-sink
returns-in-Ok-no_line-clause-sink g c =
    puts_due g.T.Sink.written g.T.Sink.faults c.args.sink.now c.put-in-Ok-no_line.new.sink (No c.in-Err-No.cause) tt
    c.as_bytes.result.now c.put-in-Ok-no_line.result c.put-in-Ok-no_line.ensures

pub returns-in-Err-no_line-clause-source : goal.returns-in-Err-no_line-clause-source
returns-in-Err-no_line-clause-source g c =
    takes_memory g.S.Source.left g.S.Source.faults (texts c.args.words.now) c.args.source.now c.prepare.new.source c.in-Err-No.cause
    (subst (λ (s : Status). TakesFrom g.S.Source.left g.S.Source.faults (texts c.args.words.now) c.args.source.now c.prepare.new.source s) c.in-Err-No.field-0-is c.in-Err-No.ensures.source)

pub returns-in-Err-clause-outcome : goal.returns-in-Err-clause-outcome
returns-in-Err-clause-outcome g c =
    let none : due_with c.in-Err.status ≡ [] = search rules in
    stopped (texts c.args.words.now) (g.S.Source.left c.args.source.now) (g.T.Sink.written c.args.sink.now) c.in-Err.status c.in-Err.ensures.outcome none c.in-Err.ensures.unwritten
