use Rattle.std.proofs.Common.{◌-◌, arith}
use Rattle.number_rules.proofs.NineTexts.{digit_more, all_written, nine_written}
use Rattle.number_rules.proofs.nine_text.put_digits.Goals as goal

pub loop-preserved : goal.loop-preserved
loop-preserved c = record {
  within = omega arith;
  below = omega arith;
  written = digit_more c.loop.room c.loop.count c.loop.counter c.loop.left _ (omega arith) c.if-left-eq0.false (omega arith) c.loop.invariant.written;
}

pub returns-then-left-eq0-clause-text : goal.returns-then-left-eq0-clause-text
returns-then-left-eq0-clause-text c = all_written c.loop.room c.loop.count _ c.loop.left _ c.if-left-eq0.true c.loop.invariant.written

pub returns-clause-text : goal.returns-clause-text
returns-clause-text c = nine_written c.loop.room c.loop.count (9 - c.loop.counter) c.loop.left _ (omega arith) c.loop.invariant.written
