use Rattle.std.proofs.Common.{◌≡◌, ℕ, ◌+◌, List, ◌++◌, length, sym, subst, arith, length-append, Some, Ok, Err}
use Rattle.first_fault.specs.Machine.{steps}
use Rattle.first_fault.proofs.Machines.{steps_join}
use Rattle.json_machine.specs.Machine.{step, start}
use Rattle.json_read.specs.Reader.{HasRead, HasReadBy}
use Rattle.json_read.specs.Stops.{IsStop}
use Rattle.json_read.specs.Views.{state_of}
use Rattle.json_read.specs.declared.fault.JsonReadFault.TheVariants.{Text}
use Rattle.json_read.proofs.Feeds.{go_answers, stop_answers, stop_fault, stop_not_ended, stopped_answers, stopped_reads, unless_memory}
use Rattle.json_read.proofs.Readings.{refused_feed}
use Rattle.json_read.proofs.reader.JsonReader.feed.Goals as goal

pub returns-in-Some-clause-read : goal.returns-in-Some-clause-read
returns-in-Some-clause-read c = unless_memory (Unit {0}) c.in-Some.fault ((text : List ℕ) → HasRead c.args.self.now text → HasRead (record c.args.self.now { count = c.args.self.now.count + length c.args.piece.now }) (text ++ c.args.piece.now)) (λ text r.
    let machine = c.args.self.now.machine in
    let old : HasReadBy (Some c.in-Some.fault) machine text = subst (λ s. HasReadBy s machine text) c.in-Some.is r.1 in (
      rw length-append (omega arith),
      subst (λ s. HasReadBy s machine (text ++ c.args.piece.now)) (sym c.in-Some.is) (stopped_reads c.in-Some.fault machine text c.args.piece.now old),
    ))

pub returns-in-Some-clause-answer : goal.returns-in-Some-clause-answer
returns-in-Some-clause-answer c = λ text r.
    let machine = c.args.self.now.machine in
    stopped_answers c.in-Some.fault machine text c.args.piece.now (subst (λ s. HasReadBy s machine text) c.in-Some.is r.1)

pub returns-in-Some-clause-refused : goal.returns-in-Some-clause-refused
returns-in-Some-clause-refused c = λ text fault r n more.
    let machine = c.args.self.now.machine in
    refused_feed (text ++ c.args.piece.now) fault (Err c.in-Some.fault) n more (stopped_answers c.in-Some.fault machine text c.args.piece.now (subst (λ s. HasReadBy s machine text) c.in-Some.is r.1))

pub returns-in-Ok-None-clause-read : goal.returns-in-Ok-None-clause-read
returns-in-Ok-None-clause-read c = λ text r.
    let from = state_of c.args.self.now.machine in
    let next = state_of c.run.new.machine in
    let old : steps step start text ≡ Some from = subst (λ s. HasReadBy s c.args.self.now.machine text) c.in-None.is r.1 in
    let went : steps step from c.args.piece.now ≡ Some next = rw c.in-Ok-None.field-0-is at c.in-Ok-None.ensures in (
      rw length-append (omega arith),
      subst (λ s. HasReadBy s c.run.new.machine (text ++ c.args.piece.now)) (sym c.in-None.is) (steps_join step start from next text c.args.piece.now old went),
    )

pub returns-in-Ok-None-clause-answer : goal.returns-in-Ok-None-clause-answer
returns-in-Ok-None-clause-answer c = λ text r.
    let from = state_of c.args.self.now.machine in
    let next = state_of c.run.new.machine in
    let old : steps step start text ≡ Some from = subst (λ s. HasReadBy s c.args.self.now.machine text) c.in-None.is r.1 in
    let went : steps step from c.args.piece.now ≡ Some next = rw c.in-Ok-None.field-0-is at c.in-Ok-None.ensures in
    go_answers text c.args.piece.now from next old went

pub returns-in-Ok-None-clause-refused : goal.returns-in-Ok-None-clause-refused
returns-in-Ok-None-clause-refused c = λ text fault r n more.
    let from = state_of c.args.self.now.machine in
    let next = state_of c.run.new.machine in
    let old : steps step start text ≡ Some from = subst (λ s. HasReadBy s c.args.self.now.machine text) c.in-None.is r.1 in
    let went : steps step from c.args.piece.now ≡ Some next = rw c.in-Ok-None.field-0-is at c.in-Ok-None.ensures in
    refused_feed (text ++ c.args.piece.now) fault (Ok tt) n more (go_answers text c.args.piece.now from next old went)

pub returns-in-Ok-Some-clause-read : goal.returns-in-Ok-Some-clause-read
returns-in-Ok-Some-clause-read c = λ text r.
    let from = state_of c.args.self.now.machine in
    let place = c.in-Ok-Some.place in
    let cause = c.in-Ok-Some.cause in
    let old : steps step start text ≡ Some from = subst (λ s. HasReadBy s c.args.self.now.machine text) c.in-None.is r.1 in
    let stop : IsStop from c.args.piece.now place cause = rw c.in-Ok-Some.field-0-is at c.in-Ok-Some.ensures in (
      rw length-append (omega arith),
      (rw r.0 (stop_fault text c.args.piece.now from place cause old stop), stop_not_ended from c.args.piece.now place cause stop),
    )

pub returns-in-Ok-Some-clause-answer : goal.returns-in-Ok-Some-clause-answer
returns-in-Ok-Some-clause-answer c = λ text r.
    let from = state_of c.args.self.now.machine in
    let place = c.in-Ok-Some.place in
    let cause = c.in-Ok-Some.cause in
    let old : steps step start text ≡ Some from = subst (λ s. HasReadBy s c.args.self.now.machine text) c.in-None.is r.1 in
    let stop : IsStop from c.args.piece.now place cause = rw c.in-Ok-Some.field-0-is at c.in-Ok-Some.ensures in
    stop_answers text c.args.piece.now from place (record { place = c.args.self.now.count + place; cause = cause }) old stop (omega (arith, r.0))

pub returns-in-Ok-Some-clause-refused : goal.returns-in-Ok-Some-clause-refused
returns-in-Ok-Some-clause-refused c = λ text fault r n more.
    let from = state_of c.args.self.now.machine in
    let place = c.in-Ok-Some.place in
    let cause = c.in-Ok-Some.cause in
    let old : steps step start text ≡ Some from = subst (λ s. HasReadBy s c.args.self.now.machine text) c.in-None.is r.1 in
    let stop : IsStop from c.args.piece.now place cause = rw c.in-Ok-Some.field-0-is at c.in-Ok-Some.ensures in
    refused_feed (text ++ c.args.piece.now) fault (Err (Text (record { place = c.args.self.now.count + place; cause = cause }))) n more
    (stop_answers text c.args.piece.now from place (record { place = c.args.self.now.count + place; cause = cause }) old stop (omega (arith, r.0)))
