use Rattle.regions.proofs.Triangle.{triangle_plane, triangle_connected}
use Rattle.regions.proofs.triangle_is_plane.Goals as goal

pub returns-clause-plane : goal.returns-clause-plane
returns-clause-plane c = triangle_plane

pub returns-clause-connected : goal.returns-clause-connected
returns-clause-connected c = triangle_connected
