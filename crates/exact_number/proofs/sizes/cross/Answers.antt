use Rattle.std.proofs.Common.{arith}
use Rattle.exact_number.proofs.WholeSizes.{difference_fits, product_fits, whole_sized}
use Rattle.exact_number.proofs.sizes.cross.Goals as goal

pub mul-requires : goal.mul-requires
mul-requires g c = product_fits g.W.Whole.ROOT g.met.W.Whole.at_most_three (g.W.Whole.pair c.args.a) (g.W.Whole.pair c.args.d) (omega arith)

pub mul-requires-2 : goal.mul-requires-2
mul-requires-2 g c = product_fits g.W.Whole.ROOT g.met.W.Whole.at_most_three (g.W.Whole.pair c.args.b) (g.W.Whole.pair c.args.c) (omega arith)

pub sub-requires : goal.sub-requires
sub-requires g c =
    let sized = whole_sized g.W.Whole.ROOT g.W.Whole.pair g.W.Whole.numbers g.met.W.Whole.at_most_three in
    let first = sized.size_mul c.args.a c.args.d in
    let second = sized.size_mul c.args.b c.args.c in
    difference_fits (g.W.Whole.pair c.mul.result) (g.W.Whole.pair c.mul-2.result) (rw (c.mul.ensures, c.mul-2.ensures) (omega (arith, first, second)))

pub returns-clause-size : goal.returns-clause-size
returns-clause-size g c =
    let sized = whole_sized g.W.Whole.ROOT g.W.Whole.pair g.W.Whole.numbers g.met.W.Whole.at_most_three in
    let first = sized.size_mul c.args.a c.args.d in
    let second = sized.size_mul c.args.b c.args.c in
    let both = sized.size_sub (g.W.Whole.numbers.mul c.args.a c.args.d) (g.W.Whole.numbers.mul c.args.b c.args.c) in
    rw (c.sub.ensures, c.mul.ensures, c.mul-2.ensures) (omega (arith, first, second, both))
