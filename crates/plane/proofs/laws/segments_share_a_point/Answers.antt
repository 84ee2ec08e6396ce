use Rattle.plane.proofs.Crossings.{share_point, common_is_crossing}
use Rattle.plane.proofs.laws.segments_share_a_point.Goals as goal

pub returns-clause-share : goal.returns-clause-share
returns-clause-share g c K = share_point K

pub returns-clause-only : goal.returns-clause-only
returns-clause-only g c K = common_is_crossing K
