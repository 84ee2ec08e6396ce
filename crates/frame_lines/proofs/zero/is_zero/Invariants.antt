use Rattle.frame_lines.proofs.Zeros.{IsPassed}
use Rattle.frame_lines.proofs.zero.is_zero.Given as goal

abbrev pub invariant-loop-byte : goal.invariant-loop-byte
invariant-loop-byte l = IsPassed l.text l.byte-index
