use Rattle.arrangement.proofs.Growing.{map_sorted}
use Rattle.arrangement.proofs.found.vertices_of.Goals as goal

pub returns-clause-sorted : goal.returns-clause-sorted
returns-clause-sorted g c = map_sorted g.W.Whole.numbers.ring (λ v. v.point) c.args.found.keys c.len.ensures.ordered
