use Rattle.std.proofs.Common.{subst, Ok, Err}
use Rattle.cp_lines.specs.CpText.{CpText}
use Rattle.cp_lines.specs.Reads.{IsFaultAt, IsReading}
use Rattle.cp_lines.specs.declared.fault.CpReadFault.TheVariants.{Text}
use Rattle.cp_lines.proofs.Readings.{named_at, accepted_answer, refused_answer}
use Rattle.cp_lines.proofs.SmallKinds.{small_kinds}
use Rattle.cp_lines.proofs.read.read_cp.Goals as goal

spelled : (c : goal.In-Lines) → CpText c.args.text.now c.in-Lines.lines
spelled c = subst (IsReading c.args.text.now) c.in-Lines.is c.in_ok-lines.ensures

pub returns-in-Lines-clause-kinds : goal.returns-in-Lines-clause-kinds
returns-in-Lines-clause-kinds c = small_kinds c.args.text.now c.in-Lines.lines (spelled c)

pub returns-in-Lines-clause-accepted : goal.returns-in-Lines-clause-accepted
returns-in-Lines-clause-accepted c = λ lines a. accepted_answer c.args.text.now lines (Ok c.in-Lines.lines) a (spelled c)

pub returns-in-Lines-clause-refused : goal.returns-in-Lines-clause-refused
returns-in-Lines-clause-refused c = λ fault n. refused_answer c.args.text.now fault (Ok c.in-Lines.lines) n (spelled c)

pub returns-in-Stopped-clause-accepted : goal.returns-in-Stopped-clause-accepted
returns-in-Stopped-clause-accepted c =
    let at : IsFaultAt c.args.text.now c.in-Stopped.place c.in-Stopped.cause = subst (IsReading c.args.text.now) c.in-Stopped.is c.in_ok-lines.ensures in
    let named = named_at c.args.text.now c.in-Stopped.place c.in-Stopped.cause c.at.result at c.at.ensures.cause c.at.ensures.line c.at.ensures.column in
    λ lines a. accepted_answer c.args.text.now lines (Err (Text c.at.result)) a named

pub returns-in-Stopped-clause-refused : goal.returns-in-Stopped-clause-refused
returns-in-Stopped-clause-refused c =
    let at : IsFaultAt c.args.text.now c.in-Stopped.place c.in-Stopped.cause = subst (IsReading c.args.text.now) c.in-Stopped.is c.in_ok-lines.ensures in
    let named = named_at c.args.text.now c.in-Stopped.place c.in-Stopped.cause c.at.result at c.at.ensures.cause c.at.ensures.line c.at.ensures.column in
    λ fault n. refused_answer c.args.text.now fault (Err (Text c.at.result)) n named
