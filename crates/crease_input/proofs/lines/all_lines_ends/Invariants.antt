use Rattle.std.proofs.Common.{map}
use Rattle.crease_input.specs.Lines.{Answers}
use Rattle.crease_input.proofs.Gathering.{StandsAt}
use Rattle.crease_input.proofs.lines.all_lines_ends.Given as goal

abbrev pub invariant-loop-number : goal.invariant-loop-number
invariant-loop-number g l =
    StandsAt g.N.Exact.parts (Answers g.N.Exact.ROOT g.N.Exact.parts l.fn.rule.row (λ d. g.F.Fn.post l.fn.rule.call (d, tt))) l.lines l.number
    (map (λ k. k.point) l.corners.keys) l.edges
