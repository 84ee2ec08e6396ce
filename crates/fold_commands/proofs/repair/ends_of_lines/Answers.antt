use Rattle.std.proofs.Common.{List, subst}
use Rattle.std.proofs.lemmas.Result.{err_from_is_err_and}
use Rattle.cp_lines.specs.declared.line.CpLine.{CpLine}
use Rattle.fold_commands.specs.Repairs.{HasEnds, LacksEnds}
use Rattle.fold_commands.specs.Status.{of_input}
use Rattle.fold_commands.specs.declared.given.Given.TheVariants as given
use Rattle.fold_commands.proofs.Repairing.{Stops, few_edges_of_lines, few_of_lines, in_range_of_lines, lines_go, lines_stop}
use Rattle.fold_commands.proofs.repair.ends_of_lines.Goals as goal

pub returns-in_err-lines_ends-clause-ends : goal.returns-in_err-lines_ends-clause-ends
returns-in_err-lines_ends-clause-ends g c =
    let p = err_from_is_err_and c.from_residual.result c.from_residual.ensures.1 in
    let parts = g.N.Exact.parts in
    let row = c.args.rule.now.row in
    let fault = c.in_err-lines_ends.field-0.0 in
    rw (p.1, p.2) (subst (λ (ls : List CpLine). Stops (LacksEnds g.N.Exact.ROOT parts row (given.Lines ls)) (of_input fault)) c.as_slice.ensures
    (lines_stop g.N.Exact.ROOT parts row c.as_slice.result.now fault c.in_err-lines_ends.ensures.row c.in_err-lines_ends.ensures.too_many))

pub returns-clause-ends : goal.returns-clause-ends
returns-clause-ends g c =
    let parts = g.N.Exact.parts in
    let row = c.args.rule.now.row in
    let ends = c.in_ok-lines_ends.field-0 in
    subst (λ (ls : List CpLine). HasEnds g.N.Exact.ROOT parts row (given.Lines ls) ends) c.as_slice.ensures
    (lines_go g.N.Exact.ROOT parts row c.as_slice.result.now ends c.in_ok-lines_ends.ensures.row c.in_ok-lines_ends.ensures.too_many)

pub returns-clause-few : goal.returns-clause-few
returns-clause-few g c =
    few_of_lines g.N.Exact.ROOT g.N.Exact.parts c.args.rule.now.row c.as_slice.result.now c.in_ok-lines_ends.field-0 c.in_ok-lines_ends.ensures.row
    c.in_ok-lines_ends.ensures.too_many c.in_ok-lines_ends.ensures.within

pub returns-clause-in_range : goal.returns-clause-in_range
returns-clause-in_range g c = in_range_of_lines c.as_slice.result.now c.in_ok-lines_ends.field-0 c.in_ok-lines_ends.ensures.within

pub returns-clause-few_edges : goal.returns-clause-few_edges
returns-clause-few_edges g c =
    few_edges_of_lines g.N.Exact.ROOT g.N.Exact.parts c.args.rule.now.row c.as_slice.result.now c.in_ok-lines_ends.field-0 c.in_ok-lines_ends.ensures.row
    c.in_ok-lines_ends.ensures.too_many c.in_ok-lines_ends.ensures.within
