use Rattle.flat_fold.proofs.SheetSides.{border-one_face, both-sides, some-side}
use Rattle.flat_fold.proofs.laws.each_edge_has_a_face.Goals as goal

pub returns-clause-some : goal.returns-clause-some
returns-clause-some g c = λ ends faces h e l sides has. some-side ends faces h e l sides has

pub returns-clause-border : goal.returns-clause-border
returns-clause-border g c = λ ends faces h e l letter f i a b. border-one_face ends faces h e l letter f i a b

pub returns-clause-between : goal.returns-clause-between
returns-clause-between g c = λ ends faces h e l letter sides has. both-sides ends faces h e l letter sides has
