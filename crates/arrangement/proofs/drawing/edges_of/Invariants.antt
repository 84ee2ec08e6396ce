use Rattle.std.proofs.Common.{◌≡◌, map}
use Rattle.std.specs.List.{AllZip}
use Rattle.std.specs.Map.Iter.{deref_pair}
use Rattle.arrangement.specs.Covers.{IsEdgeOf}
use Rattle.arrangement.proofs.drawing.edges_of.Given as goal

abbrev pub invariant-loop-piece : goal.invariant-loop-piece
invariant-loop-piece l = record {
  edges : AllZip IsEdgeOf (map deref_pair l.yielded) l.edges;
  lines : l.lines ≡ map (λ e. e.1.line) (map deref_pair l.yielded);
}
