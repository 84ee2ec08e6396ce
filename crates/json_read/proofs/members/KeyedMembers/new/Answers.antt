use Rattle.std.proofs.Common.{sym, ◌∙◌, ap}
use Rattle.json_machine.specs.Machine.{has_key}
use Rattle.json_read.proofs.members.KeyedMembers.new.Goals as goal

pub invariant_of-result : goal.invariant_of-result
invariant_of-result c = λ key. c.new-2.ensures c.new.result key ∙ ap (has_key key) (sym c.new.ensures)
