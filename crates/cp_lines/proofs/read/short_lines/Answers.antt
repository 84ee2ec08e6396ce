use Rattle.cp_lines.proofs.Short.{count, numbers}
use Rattle.cp_lines.proofs.read.short_lines.Goals as goal

pub returns : goal.returns
returns c = record { count = count; numbers = numbers }
