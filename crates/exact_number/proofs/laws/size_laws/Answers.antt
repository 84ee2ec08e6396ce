use Rattle.exact_number.proofs.WholeSizes.{sum_fits, difference_fits, product_fits, whole_sized}
use Rattle.exact_number.proofs.laws.size_laws.Goals as goal

pub returns-clause-sized : goal.returns-clause-sized
returns-clause-sized g c = whole_sized g.W.Whole.ROOT g.W.Whole.pair g.W.Whole.numbers g.met.W.Whole.at_most_three

pub returns-clause-sum : goal.returns-clause-sum
returns-clause-sum g c x y = sum_fits (g.W.Whole.pair x) (g.W.Whole.pair y)

pub returns-clause-difference : goal.returns-clause-difference
returns-clause-difference g c x y = difference_fits (g.W.Whole.pair x) (g.W.Whole.pair y)

pub returns-clause-product : goal.returns-clause-product
returns-clause-product g c x y = product_fits g.W.Whole.ROOT g.met.W.Whole.at_most_three (g.W.Whole.pair x) (g.W.Whole.pair y)
