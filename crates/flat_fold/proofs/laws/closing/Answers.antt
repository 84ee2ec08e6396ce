use Rattle.flat_fold.proofs.FoldingLaws.{closes-iff, closed-walks, faces-alike}
use Rattle.flat_fold.proofs.laws.closing.Goals as goal

pub returns-clause-exactly : goal.returns-clause-exactly
returns-clause-exactly g c = closes-iff

pub returns-clause-walks : goal.returns-clause-walks
returns-clause-walks g c = closed-walks

pub returns-clause-vertices : goal.returns-clause-vertices
returns-clause-vertices g c = faces-alike
