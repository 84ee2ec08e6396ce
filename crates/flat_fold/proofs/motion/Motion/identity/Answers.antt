use Rattle.std.proofs.Common.{false}
use Rattle.flat_fold.proofs.motion.Motion.identity.Goals as goal

pub returns : goal.returns
returns g c = λ i. record { c = c.whole_number-one.ensures i; s = c.whole_number-zero.ensures i; p = c.whole_number-zero.ensures i; r = c.whole_number-zero.ensures i; turned = false }
