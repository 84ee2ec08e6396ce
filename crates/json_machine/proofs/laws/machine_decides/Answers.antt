use Rattle.json_machine.proofs.Decided.{decides}
use Rattle.json_machine.proofs.laws.machine_decides.Goals as goal

pub returns : goal.returns
returns c = decides
