use Rattle.std.proofs.Common.{take, ◌∙◌, sym, ap}
use Rattle.std.specs.Prelude.{min}
use Rattle.number_rules.specs.Value.{spelled}
use Rattle.number_rules.proofs.Digits.{spelled_more}
use Rattle.number_rules.proofs.scan.capped_size.Goals as goal

pub loop-byte-preserved : goal.loop-byte-preserved
loop-byte-preserved c = (
  c.with_capped_digit-size.ensures.within,
  c.with_capped_digit-size.ensures.value (spelled (take c.loop-byte.byte-index c.args.bytes.now)) c.loop-byte.invariant.1 ∙ ap (λ n. min n 1000000000) (sym (spelled_more c.args.bytes.now c.loop-byte.byte-index c.loop-byte-test.true)),
)
