use Rattle.std.proofs.Common.{◌≡◌, take, All, string_bytes}
use Rattle.cp_lines.specs.Print.{IsPrintable, printed_form}
use Rattle.cp_lines.proofs.print.print_cp.Given as goal

abbrev pub invariant-loop-line : goal.invariant-loop-line
invariant-loop-line l = (string_bytes l.out ≡ printed_form (take l.line-index l.lines)) × All IsPrintable (take l.line-index l.lines)
