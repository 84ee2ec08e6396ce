use Rattle.first_fault.proofs.Machines.{one_value}
use Rattle.json_tree.specs.Spells.{Spells}
use Rattle.json_machine.specs.Machine.{step, finish, start}
use Rattle.json_machine.proofs.Decided.{decides}
use Rattle.json_machine.proofs.laws.one_tree.Goals as goal

pub returns : goal.returns
returns c = one_value Spells step finish start decides
