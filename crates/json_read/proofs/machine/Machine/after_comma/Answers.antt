use Rattle.std.proofs.Common.{sym, ◌∙◌, ap}
use Rattle.std.specs.Prelude.{option_map}
use Rattle.json_machine.specs.Machine.{in_phase}
use Rattle.json_read.specs.Views.{phase_with, state_of}
use Rattle.json_read.proofs.machine.Machine.after_comma.Goals as goal

pub returns-in-None : goal.returns-in-None
returns-in-None c =
    let s = state_of c.args.self.now in
    let word = c.args.self.now.word in
    let number = c.args.self.now.number in
    sym (c.due_after_comma.ensures s word number ∙ ap (option_map (λ due. in_phase s (phase_with word number due))) c.in-None.is)
