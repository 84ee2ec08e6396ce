use Rattle.plane_tests.proofs.Formed.{two, three}
use Rattle.plane_tests.proofs.overlapping.half_planes_about_an_origin.Goals as goal

pub share_a_point-requires-clause-formed : goal.share_a_point-requires-clause-formed
share_a_point-requires-clause-formed g c = two c.left_of-right.ensures c.left_of-upper.ensures

pub share_a_point-requires-2-clause-formed : goal.share_a_point-requires-2-clause-formed
share_a_point-requires-2-clause-formed g c = three c.left_of-right.ensures c.left_of-upper.ensures c.left_of-beyond.ensures
