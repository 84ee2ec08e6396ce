use Rattle.std.proofs.Common.{◌∙◌, ap₂, sym}
use Rattle.clap.specs.Words.{with_subcommand}
use Rattle.fold_commands.proofs.Meaning.{entries_more}
use Rattle.fold_commands.proofs.words.command_line.Goals as goal

pub loop-entry-preserved : goal.loop-entry-preserved
loop-entry-preserved c =
    c.in_ok-line.ensures.shape c.in_ok-subcommand.ensures.local
    ∙ ap₂ with_subcommand c.loop-entry.invariant c.in_ok-subcommand.ensures.shape
    ∙ sym (entries_more _ c.loop-entry.entry-index _ c.loop-entry-test.true)
