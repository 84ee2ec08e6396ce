use Rattle.std.proofs.Common.{arith}
use Rattle.exact_number.proofs.WholeSizes.{difference_fits, whole_sized}
use Rattle.exact_number.proofs.sizes.difference.Goals as goal

pub sub-requires : goal.sub-requires
sub-requires g c = difference_fits (g.W.Whole.pair c.args.x) (g.W.Whole.pair c.args.y) (omega arith)

pub returns-clause-size : goal.returns-clause-size
returns-clause-size g c =
    rw c.sub.ensures ((whole_sized g.W.Whole.ROOT g.W.Whole.pair g.W.Whole.numbers g.met.W.Whole.at_most_three).size_sub c.args.x c.args.y)
