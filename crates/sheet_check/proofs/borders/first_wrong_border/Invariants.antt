use Rattle.std.proofs.Common.{◌≡◌, ℕ, ◌<◌, false}
use Rattle.flat_fold.specs.Faces.{edge_at}
use Rattle.sheet_check.specs.Borders.{is_wrong_border}
use Rattle.sheet_check.proofs.borders.first_wrong_border.Given as goal

abbrev pub invariant-loop-edge : goal.invariant-loop-edge
invariant-loop-edge l = (n : ℕ) → n < l.edge → is_wrong_border l.pieces (edge_at l.edges n) ≡ false
