use Rattle.std.proofs.Common.{◌++◌, ◌∙◌, ap}
use Rattle.fold_commands.proofs.Converted.{made_writable}
use Rattle.fold_commands.proofs.convert.with_frame.Goals as goal

pub returns-clause-writable : goal.returns-clause-writable
returns-clause-writable c =
    let own = c.entries.result.now in
    made_writable c.args.file.now c.push_copies.new.entries own c.of_entries.result
    (c.writable_entries.ensures.have c.args.file.now c.requires) c.entries.ensures.in_effect c.writable_entries.ensures.make
    (c.in_ok-push_copies.ensures ∙ ap (λ es. es ++ own) c.in_ok-entries.ensures) c.of_entries.ensures
