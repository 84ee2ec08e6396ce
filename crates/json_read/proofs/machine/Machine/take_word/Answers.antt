use Rattle.std.proofs.Common.{◌≡◌, take, sym, subst, Some}
use Rattle.first_fault.specs.Machine.{steps}
use Rattle.json_machine.specs.Machine.{step, in_phase}
use Rattle.json_read.specs.Views.{phase_with, state_of}
use Rattle.json_read.specs.declared.phase.Phase.{Phase}
use Rattle.json_read.proofs.Within.{word_goes, key_goes}
use Rattle.json_read.proofs.machine.Machine.take_word.Goals as goal

pub returns-in_ok-count-in-InWord-clause-steps : goal.returns-in_ok-count-in-InWord-clause-steps
returns-in_ok-count-in-InWord-clause-steps c =
    let m = c.args.self.now in
    let s = state_of m in
    let after = c.take_front.new.self in
    let text = take c.in_ok-count-in-InWord.count c.args.bytes.now in
    subst (λ (p : Phase). steps step (in_phase s (phase_with m.word m.number p)) text ≡ Some (in_phase s (phase_with after m.number p)))
    (sym c.in-InWord.is) (word_goes s m.word after text c.in_ok-count-in-InWord.ensures.steps)

pub returns-in_ok-count-in-InKey-clause-steps : goal.returns-in_ok-count-in-InKey-clause-steps
returns-in_ok-count-in-InKey-clause-steps c =
    let m = c.args.self.now in
    let s = state_of m in
    let after = c.take_front-in-InKey.new.self in
    let text = take c.in_ok-count-in-InKey.count c.args.bytes.now in
    subst (λ (p : Phase). steps step (in_phase s (phase_with m.word m.number p)) text ≡ Some (in_phase s (phase_with after m.number p)))
    (sym c.in-InKey.is) (key_goes s m.word after text c.in_ok-count-in-InKey.ensures.steps)
