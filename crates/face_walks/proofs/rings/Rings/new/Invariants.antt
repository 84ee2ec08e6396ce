use Rattle.std.proofs.Common.{◌≡◌, [], map, replicate, List}
use Rattle.half_edges.specs.declared.arena.HalfId.{HalfId}
use Rattle.face_walks.proofs.rings.Rings.new.Given as goal

abbrev none : List HalfId
none = []

abbrev pub invariant-loop-vertex : goal.invariant-loop-vertex
invariant-loop-vertex l = map (λ ring. ring.items) l.rings.items ≡ replicate l._vertex none
