use Rattle.std.proofs.Common.{◌≡◌, ◌≤◌, ◌-◌, length, take, Some}
use Rattle.first_fault.specs.Machine.{steps}
use Rattle.json_machine.specs.Machine.{step}
use Rattle.json_read.specs.Views.{state_of}
use Rattle.json_read.proofs.run.run.Given as goal

abbrev pub invariant-loop-place : goal.invariant-loop-place
invariant-loop-place l = record {
  within : l.place ≤ length l.piece;
  steps : steps step (state_of l.fn.machine) (take l.place l.piece) ≡ Some (state_of l.machine);
}

abbrev pub decreases-loop-place : goal.decreases-loop-place
decreases-loop-place l = length l.piece - l.place
