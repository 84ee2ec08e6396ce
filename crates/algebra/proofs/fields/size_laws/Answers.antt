use Rattle.algebra.proofs.IntegerSize.{integers_sized}
use Rattle.algebra.proofs.SurdBound.{surd_sized}
use Rattle.algebra.proofs.fields.size_laws.Goals as goal

pub returns-clause-whole : goal.returns-clause-whole
returns-clause-whole c = integers_sized

pub returns-clause-surd : goal.returns-clause-surd
returns-clause-surd c = surd_sized
