use Rattle.flat_fold.proofs.MotionLaws.{keeps-distance, keeps-area, identity-isometry, composed-isometry}
use Rattle.flat_fold.proofs.laws.isometries.Goals as goal

pub returns-clause-distance : goal.returns-clause-distance
returns-clause-distance g c = keeps-distance

pub returns-clause-area : goal.returns-clause-area
returns-clause-area g c = keeps-area

pub returns-clause-identity : goal.returns-clause-identity
returns-clause-identity g c = identity-isometry

pub returns-clause-composed : goal.returns-clause-composed
returns-clause-composed g c = composed-isometry
