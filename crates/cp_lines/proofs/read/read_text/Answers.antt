use Rattle.std.proofs.Common.{◌≡◌, Bool, take, get_or, sym, ◌∙◌, ap, subst, arith, Some, None}
use Rattle.std.specs.Prelude.{if◌then◌else◌}
use Rattle.std.proofs.lemmas.List.{take_all, take_more}
use Rattle.first_fault.specs.Machine.{steps}
use Rattle.first_fault.proofs.Machines.{fault_at_byte, fault_at_end, steps-snoc}
use Rattle.cp_lines.specs.CpText.{CpText}
use Rattle.cp_lines.specs.Machine.{step, finish, start}
use Rattle.cp_lines.specs.Reads.{IsReading}
use Rattle.cp_lines.proofs.Complete.{decides}
use Rattle.cp_lines.proofs.read.read_text.Goals as goal
use Rattle.cp_lines.proofs.read.read_text.Goals.{in-Some, in-None}

pub returns-then-not-branch : goal.returns-then-not-branch
returns-then-not-branch c =
    let stops : step c.loop-place.reader (get_or c.args.text.now c.loop-place.place 0) ≡ None = sym c.in_ok-step.ensures ∙ ap (λ (w : Bool). if w then Some c.step.new.self else None) c.if-not-branch.true in
    fault_at_byte CpText step finish start decides c.args.text.now c.loop-place.place c.loop-place.reader (omega arith) c.loop-place.invariant stops

pub loop-place-preserved : goal.loop-place-preserved
loop-place-preserved c =
    let goes : step c.loop-place.reader (get_or c.args.text.now c.loop-place.place 0) ≡ Some c.step.new.self = sym c.in_ok-step.ensures ∙ ap (λ (w : Bool). if w then Some c.step.new.self else None) c.if-not-branch.false in
    ap (steps step start) (take_more c.args.text.now c.loop-place.place 0 (omega arith))
    ∙ steps-snoc step start c.loop-place.reader (take c.loop-place.place c.args.text.now) (get_or c.args.text.now c.loop-place.place 0) c.loop-place.invariant ∙ goes

pub returns : goal.returns
returns c =
    let whole : take c.loop-place.place c.args.text.now ≡ c.args.text.now = take_all c.loop-place.place c.args.text.now (omega arith) in
    let state : steps step start c.args.text.now ≡ Some c.loop-place.reader = ap (steps step start) (sym whole) ∙ c.loop-place.invariant in
    elim c.match-branch-3.branch [
      | in-Some w ↦ subst (IsReading c.args.text.now) (sym w.result-is) (decides.sound c.args.text.now c.loop-place.reader w.in-Some.lines state (sym c.in_ok-lines.ensures ∙ w.in-Some.is))
      | in-None w ↦ subst (IsReading c.args.text.now) (sym w.result-is) (fault_at_end CpText step finish start decides c.args.text.now c.loop-place.reader state (sym c.in_ok-lines.ensures ∙ w.in-None.is))
    ]
