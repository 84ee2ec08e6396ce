use Rattle.std.proofs.Common.{◌≡◌, ◌<◌, length}
use Rattle.std.specs.List.{AllByRecursion}
use Rattle.fold_tests.proofs.drawing.edges_of.Given as goal

abbrev pub invariant-loop-piece : goal.invariant-loop-piece
invariant-loop-piece l = (length l.edges ≡ l.piece-index) × AllByRecursion (λ e. (e.from < l.count) × (e.to < l.count)) l.edges
