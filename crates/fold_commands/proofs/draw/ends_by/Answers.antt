use Rattle.std.proofs.Common.{List, subst}
use Rattle.std.proofs.lemmas.Result.{err_from_is_err_and}
use Rattle.cp_lines.specs.declared.line.CpLine.{CpLine}
use Rattle.crease_input.specs.Lines.{IsWithin}
use Rattle.fold_commands.specs.Drawings.{LackEnds}
use Rattle.fold_commands.specs.Status.{of_input}
use Rattle.fold_commands.proofs.Drawn.{fileable, lacks}
use Rattle.fold_commands.proofs.Repairing.{Stops}
use Rattle.fold_commands.proofs.draw.ends_by.Goals as goal

pub returns-in_err-all_lines_ends-clause-ends : goal.returns-in_err-all_lines_ends-clause-ends
returns-in_err-all_lines_ends-clause-ends g c =
    let p = err_from_is_err_and c.from_residual.result c.from_residual.ensures.1 in
    let parts = g.N.Exact.parts in
    let row = c.args.rule.now.row in
    let fault = c.in_err-all_lines_ends.field-0.0 in
    rw (p.1, p.2) (subst (λ (ls : List CpLine). Stops (LackEnds g.N.Exact.ROOT parts row ls) (of_input fault)) c.as_slice.ensures
    (lacks g.N.Exact.ROOT parts row c.as_slice.result.now fault c.in_err-all_lines_ends.ensures.row))

pub returns-clause-fileable : goal.returns-clause-fileable
returns-clause-fileable g c =
    let ends = c.in_ok-all_lines_ends.field-0 in
    fileable g.N.Exact.parts c.args.lines ends c.requires.sound.few
    (subst (λ (ls : List CpLine). IsWithin ls ends) c.as_slice.ensures c.in_ok-all_lines_ends.ensures.within) c.in_ok-all_lines_ends.ensures.short
