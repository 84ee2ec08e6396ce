use Rattle.std.proofs.Common.{◌∙◌, sym, refl, pos}
use Rattle.algebra.proofs.IntegerOrder.{compared_with_zero}
use Rattle.algebra.proofs.Numbers.{rational_sign}
use Rattle.rational.specs.WholeNumbers.{whole_numbers}
use Rattle.rational.proofs.ring.RationalRingWhole.sign.Goals as goal

pub returns : goal.returns
returns c = c.cmp.ensures ∙ compared_with_zero c.args.self.a ∙ sym (rational_sign (record { a = c.args.self.a; b = pos 0; q = pos 1 }) refl) ∙ sym (whole_numbers.sign_is c.args.self)
