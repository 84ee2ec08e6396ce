use Rattle.flat_fold.proofs.MotionLaws.{place-composed, place-identity, composed-assoc, composed-identity, identity-composed, handed-composed, agree_on_two}
use Rattle.flat_fold.proofs.laws.compositions.Goals as goal

pub returns-clause-composed : goal.returns-clause-composed
returns-clause-composed g c = place-composed

pub returns-clause-identity : goal.returns-clause-identity
returns-clause-identity g c = place-identity

pub returns-clause-associative : goal.returns-clause-associative
returns-clause-associative g c = composed-assoc

pub returns-clause-identity_first : goal.returns-clause-identity_first
returns-clause-identity_first g c = composed-identity

pub returns-clause-identity_last : goal.returns-clause-identity_last
returns-clause-identity_last g c = identity-composed

pub returns-clause-handed : goal.returns-clause-handed
returns-clause-handed g c = handed-composed

pub returns-clause-two_points : goal.returns-clause-two_points
returns-clause-two_points g c = agree_on_two
