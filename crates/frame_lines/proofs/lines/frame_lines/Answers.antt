use Rattle.std.proofs.Common.{rules, ◌≡◌, Some, None, not, sym, ◌∙◌, ap, ◌<◌, ◌^◌, length, arith}
use Rattle.std.specs.List.{position}
use Rattle.frame_lines.specs.Lines.{is_flat}
use Rattle.frame_lines.proofs.Agree.{axes_of, few_points, position_within, within, lettered, kinds, has_lines}
use Rattle.frame_lines.proofs.lines.frame_lines.Goals as goal

pub overflow_cast-result : goal.overflow_cast-result
overflow_cast-result c =
    let points = c.in_ok-points.points.now in
    let few = few_points points c.in_ok-points.ensures.1 in
    let there : c.in-Some.vertex < length points =
    position_within (λ point. not (is_flat point)) points c.in-Some.vertex (sym c.in-Some.ensures) in
    let small : c.in-Some.vertex < 2 ^ 32 = omega (arith, few, there) in
    search rules

pub lines_of-requires-clause-axes : goal.lines_of-requires-clause-axes
lines_of-requires-clause-axes c = axes_of c.in_ok-points.points.now c.in_ok-points.ensures.1

pub lines_of-requires-clause-within : goal.lines_of-requires-clause-within
lines_of-requires-clause-within c =
    within c.args.frame.now c.in_ok-points.points.now c.in_ok-edges.edges.now c.requires c.in_ok-points.ensures.0 c.in_ok-edges.ensures

pub lines_of-requires-clause-letters : goal.lines_of-requires-clause-letters
lines_of-requires-clause-letters c =
    ap length (c.as_slice.ensures ∙ c.in_ok-letters.ensures)
    ∙ lettered c.args.frame.now c.in_ok-points.points.now c.in_ok-edges.edges.now c.requires c.in_ok-points.ensures.0 c.in_ok-edges.ensures

pub returns-clause-answer : goal.returns-clause-answer
returns-clause-answer c =
    has_lines c.args.frame.now.entries c.in_ok-points.points.now c.in_ok-edges.edges.now c.as_slice.result.now _ c.in_ok-points.ensures.0 c.in_ok-edges.ensures
    (c.as_slice.ensures ∙ c.in_ok-letters.ensures) (search rules) c.in_ok-lines_of.ensures.lines

pub returns-clause-kinds : goal.returns-clause-kinds
returns-clause-kinds c = kinds c.in_ok-points.points.now _ _ c.in_ok-lines_of.ensures.lines
