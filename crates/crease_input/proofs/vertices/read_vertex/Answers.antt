use Rattle.std.proofs.Common.{rules, ◌≡◌, Some, None}
use Rattle.std.specs.Option.{option_copied}
use Rattle.number_rules.specs.ExactText.{ReadsExactText}
use Rattle.crease_input.specs.Lines.{Answers, IsPoint}
use Rattle.crease_input.proofs.Frames.{vertex_by_rule, vertex_stale}
use Rattle.crease_input.proofs.vertices.read_vertex.Goals as goal

pub returns-in-None : goal.returns-in-None
returns-in-None g c =
    let none : option_copied c.args.exact ≡ None = search rules in
    rw (none) (vertex_by_rule g.N.Exact.ROOT g.N.Exact.parts _ c.args.point.now c.args.vertex c.read_point.result (search rules) (search rules))

pub returns-else-is_fresh : goal.returns-else-is_fresh
returns-else-is_fresh g c =
    let some : option_copied c.args.exact ≡ Some (c.in-Some.x, c.in-Some.y) = search rules in
    let told : IsPoint (ReadsExactText g.N.Exact.ROOT g.N.Exact.parts) c.in-Some.x c.in-Some.y c.in_ok-number-in-Some.number = search rules in
    rw (some) (vertex_stale g.N.Exact.ROOT g.N.Exact.parts
    (Answers g.N.Exact.ROOT g.N.Exact.parts c.args.rule.now.row (λ d. g.F.Fn.post c.args.rule.now.call (d, tt)))
    c.args.point.now c.in-Some.x c.in-Some.y c.args.vertex
    c.in_ok-number-in-Some.number (search rules) told (search rules))
