use Rattle.std.proofs.Common.{refl}
use Rattle.drawing_examples.proofs.Drawings.{are_cut_into}
use Rattle.drawing_examples.proofs.small_drawings.Goals as goal

pub returns-clause-nothing : goal.returns-clause-nothing
returns-clause-nothing c = are_cut_into refl refl refl

pub returns-clause-single : goal.returns-clause-single
returns-clause-single c = are_cut_into refl refl refl

pub returns-clause-cross : goal.returns-clause-cross
returns-clause-cross c = are_cut_into refl refl refl

pub returns-clause-tee : goal.returns-clause-tee
returns-clause-tee c = are_cut_into refl refl refl

pub returns-clause-along : goal.returns-clause-along
returns-clause-along c = are_cut_into refl refl refl

pub returns-clause-border_wins : goal.returns-clause-border_wins
returns-clause-border_wins c = are_cut_into refl refl refl

pub returns-clause-diagonals : goal.returns-clause-diagonals
returns-clause-diagonals c = are_cut_into refl refl refl

pub returns-clause-overlap : goal.returns-clause-overlap
returns-clause-overlap c = are_cut_into refl refl refl
