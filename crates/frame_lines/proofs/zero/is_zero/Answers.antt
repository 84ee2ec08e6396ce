use Rattle.std.proofs.Common.{sym, ◌∙◌}
use Rattle.frame_lines.proofs.Zeros.{digit_here, none_passed}
use Rattle.frame_lines.proofs.zero.is_zero.Goals as goal

pub loop-byte-init : goal.loop-byte-init
loop-byte-init c = none_passed c.args.text.now

pub returns-then-byte-le57 : goal.returns-then-byte-le57
returns-then-byte-le57 c =
    digit_here c.args.text.now c.loop-byte.byte-index c.loop-byte.invariant c.loop-byte-test.true c.if-byte-ge49.true c.if-byte-le57.true
