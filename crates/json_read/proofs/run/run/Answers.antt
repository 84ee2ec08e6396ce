use Rattle.std.proofs.Common.{◌≡◌, ◌+◌, Bool, take, get_or, sym, ◌∙◌, ap, arith, Some, None}
use Rattle.std.specs.Prelude.{if◌then◌else◌}
use Rattle.std.proofs.lemmas.List.{take_more, take_all, take_rest}
use Rattle.first_fault.specs.Machine.{steps}
use Rattle.first_fault.proofs.Machines.{steps-snoc}
use Rattle.json_machine.specs.Machine.{step}
use Rattle.json_read.specs.Views.{state_of}
use Rattle.json_read.proofs.Within.{on_within}
use Rattle.json_read.proofs.run.run.Goals as goal

pub returns-then-place-piece : goal.returns-then-place-piece
returns-then-place-piece c =
    let place = c.loop-place.place + c.in_ok-place.field-0 in
    let from = state_of c.args.machine.now in
    let on = on_within from (state_of c.loop-place.machine) (state_of c.take_word.new.self) c.args.piece.now _ c.loop-place.place c.in_ok-place.field-0 (take_rest c.args.piece.now c.loop-place.place) c.loop-place.invariant.within c.in_ok-place.ensures.within c.loop-place.invariant.steps c.in_ok-place.ensures.steps in
    ap (steps step from) (sym (take_all place c.args.piece.now (omega arith))) ∙ on.1

pub returns-then-not-branch : goal.returns-then-not-branch
returns-then-not-branch c =
    let place = c.loop-place.place + c.in_ok-place.field-0 in
    let before = state_of c.take_word.new.self in
    let on = on_within (state_of c.args.machine.now) (state_of c.loop-place.machine) before c.args.piece.now _ c.loop-place.place c.in_ok-place.field-0 (take_rest c.args.piece.now c.loop-place.place) c.loop-place.invariant.within c.in_ok-place.ensures.within c.loop-place.invariant.steps c.in_ok-place.ensures.steps in
    let stops : step before (get_or c.args.piece.now place 0) ≡ None = sym c.in_ok-step.ensures ∙ ap (λ (w : Bool). if w then Some (state_of c.step.new.self) else None) c.if-not-branch.true in
    (omega (arith, on.0), before, on.1, stops, c.cause-cause.ensures)

pub loop-place-preserved : goal.loop-place-preserved
loop-place-preserved c =
    let place = c.loop-place.place + c.in_ok-place.field-0 in
    let piece = c.args.piece.now in
    let from = state_of c.args.machine.now in
    let before = state_of c.take_word.new.self in
    let on = on_within from (state_of c.loop-place.machine) before piece _ c.loop-place.place c.in_ok-place.field-0 (take_rest piece c.loop-place.place) c.loop-place.invariant.within c.in_ok-place.ensures.within c.loop-place.invariant.steps c.in_ok-place.ensures.steps in
    let goes : step before (get_or piece place 0) ≡ Some (state_of c.step.new.self) = sym c.in_ok-step.ensures ∙ ap (λ (w : Bool). if w then Some (state_of c.step.new.self) else None) c.if-not-branch.false in
    record {
      within = omega (arith, on.0);
      steps = ap (steps step from) (take_more piece place 0 (omega (arith, on.0))) ∙ steps-snoc step from before (take place piece) (get_or piece place 0) on.1 ∙ goes;
    }
