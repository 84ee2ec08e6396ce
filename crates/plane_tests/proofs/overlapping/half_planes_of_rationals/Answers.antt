use Rattle.plane_tests.proofs.Formed.{two, three}
use Rattle.plane_tests.proofs.overlapping.half_planes_of_rationals.Goals as goal

pub share_a_point-requires-clause-formed : goal.share_a_point-requires-clause-formed
share_a_point-requires-clause-formed g c = three c.left_of.ensures c.left_of-2.ensures c.left_of-3.ensures

pub share_a_point-requires-2-clause-formed : goal.share_a_point-requires-2-clause-formed
share_a_point-requires-2-clause-formed g c = three c.left_of-4.ensures c.left_of-5.ensures c.left_of-6.ensures

pub share_a_point-requires-3-clause-formed : goal.share_a_point-requires-3-clause-formed
share_a_point-requires-3-clause-formed g c = two c.left_of-7.ensures c.left_of-8.ensures
