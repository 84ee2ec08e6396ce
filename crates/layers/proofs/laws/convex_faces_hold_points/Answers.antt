use Rattle.layers.proofs.Convex.{centre, centre_is_point, centre_inside, face_near}
use Rattle.layers.proofs.laws.convex_faces_hold_points.Goals as goal

pub returns-clause-inside : goal.returns-clause-inside
returns-clause-inside g c = λ K face convex. (centre K face.corners, centre_is_point K face convex, centre_inside K face convex)

pub returns-clause-near : goal.returns-clause-near
returns-clause-near g c = λ K face convex s p piece middle. let r = face_near K face convex s piece p middle in (r.lines, r.holds, r.enough)
