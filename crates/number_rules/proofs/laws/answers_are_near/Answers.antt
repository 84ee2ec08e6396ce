use Rattle.std.proofs.Common.{Ok}
use Rattle.number_rules.proofs.Tolerance.{all_within}
use Rattle.number_rules.proofs.laws.answers_are_near.Goals as goal

pub returns : goal.returns
returns g c = λ k parts row radicand holds is text x reads.
    all_within k parts radicand holds row text reads.0 (Ok x) is.above_zero reads.1.0 reads.1.1
