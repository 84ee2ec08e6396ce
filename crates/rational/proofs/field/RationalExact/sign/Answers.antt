use Rattle.std.proofs.Common.{◌∙◌, sym}
use Rattle.algebra.proofs.IntegerOrder.{compared_with_zero}
use Rattle.rational.proofs.Reduced.{sign_of_rational}
use Rattle.rational.proofs.field.RationalExact.sign.Goals as goal

pub returns : goal.returns
returns c = c.cmp.ensures ∙ compared_with_zero c.args.self.a ∙ sym (sign_of_rational c.args.self)
