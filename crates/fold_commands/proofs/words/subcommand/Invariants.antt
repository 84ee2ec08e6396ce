use Rattle.std.proofs.Common.{◌≡◌, false, map, take, []}
use Rattle.clap.specs.Words.{app_of}
use Rattle.clap.specs.Simple.{new_shape}
use Rattle.clap.specs.declared.builder.command.Command.TheViews.{out-Command}
use Rattle.fold_commands.specs.Words.{option_rule}
use Rattle.fold_commands.proofs.words.subcommand.Given as goal

abbrev pub invariant-loop-name : goal.invariant-loop-name
invariant-loop-name l = record {
  shape : app_of l.command ≡ record { top = record (new_shape l.entry.name.now) { rules = map option_rule (map (λ option. option.now) (take l.name-index l.name-items)) }; subs = [] };
  local : (out-Command l.command).has_globals ≡ false;
}
