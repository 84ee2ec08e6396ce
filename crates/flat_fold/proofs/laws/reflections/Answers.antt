use Rattle.flat_fold.proofs.MotionLaws.{reflection-twice, fixes-line, turns-areas, reflection-isometry}
use Rattle.flat_fold.proofs.laws.reflections.Goals as goal

pub returns-clause-twice : goal.returns-clause-twice
returns-clause-twice g c = reflection-twice

pub returns-clause-line : goal.returns-clause-line
returns-clause-line g c = (λ F a b p differ on. fixes-line F a b differ p on)

pub returns-clause-areas : goal.returns-clause-areas
returns-clause-areas g c = (λ F a b p q r differ. turns-areas F a b differ p q r)

pub returns-clause-isometry : goal.returns-clause-isometry
returns-clause-isometry g c = reflection-isometry
