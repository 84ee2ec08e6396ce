use Rattle.exact_number.proofs.WholeFits.{bounds, product_in_range, sum_in_range, size_in_range}
use Rattle.half_planes.proofs.bound.value_at.Goals as goal

pub mul-by_x-requires : goal.mul-by_x-requires
mul-by_x-requires g c = product_in_range g.W.Whole.numbers g.met.W.Whole.at_most_three (search bounds) (search bounds) tt

pub mul-by_y-requires : goal.mul-by_y-requires
mul-by_y-requires g c = product_in_range g.W.Whole.numbers g.met.W.Whole.at_most_three (search bounds) (search bounds) tt

pub mul-by_w-requires : goal.mul-by_w-requires
mul-by_w-requires g c = product_in_range g.W.Whole.numbers g.met.W.Whole.at_most_three (search bounds) (search bounds) tt

pub add-requires : goal.add-requires
add-requires g c = sum_in_range g.W.Whole.numbers g.met.W.Whole.at_most_three (search bounds depth 20) (search bounds depth 20) tt

pub add-requires-2 : goal.add-requires-2
add-requires-2 g c = sum_in_range g.W.Whole.numbers g.met.W.Whole.at_most_three (search bounds depth 20) (search bounds depth 20) tt

pub returns-clause-size : goal.returns-clause-size
returns-clause-size g c = size_in_range g.W.Whole.numbers g.met.W.Whole.at_most_three (search bounds depth 20) tt
