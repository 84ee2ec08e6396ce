use Rattle.std.proofs.Common.{◌≡◌, take, Some}
use Rattle.first_fault.specs.Machine.{steps}
use Rattle.cp_lines.specs.Machine.{step, start}
use Rattle.cp_lines.proofs.read.read_text.Given as goal

abbrev pub invariant-loop-place : goal.invariant-loop-place
invariant-loop-place l = steps step start (take l.place l.text) ≡ Some l.reader
