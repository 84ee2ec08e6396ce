use Rattle.std.proofs.Common.{take}
use Rattle.std.specs.List.{AllZip}
use Rattle.std.specs.Option.{option_copied}
use Rattle.crease_input.specs.Lines.{Answers}
use Rattle.crease_input.specs.Frames.{IsVertex, vertices_in}
use Rattle.crease_input.proofs.vertices.read_vertices.Given as goal

abbrev pub invariant-loop-vertex : goal.invariant-loop-vertex
invariant-loop-vertex g l =
    AllZip (IsVertex g.N.Exact.ROOT g.N.Exact.parts (Answers g.N.Exact.ROOT g.N.Exact.parts l.fn.rule.row (λ d. g.F.Fn.post l.fn.rule.call (d, tt))))
    (take l.vertex (vertices_in l.points (option_copied l.fn.exact))) l.coords
